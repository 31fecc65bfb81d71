use Rattle.std.proofs.{Common.{◌≤◌, ◌/◌, ◌∙◌, sym, arith}, lemmas.Bool.false≢true}
use Rattle.bit_blocks.proofs.{CompareLemmas.{difference_of_blocks, first_is_past, first_of_rest, shorter_end, zero_before_first}, VectorLemmas.numbers_below}
use Rattle.bit_blocks.proofs.packed.counted.difference_is_zero_counted.Goals as goal

pub returns-then-first_merge_to_zero : goal.returns-then-first_merge_to_zero
returns-then-first_merge_to_zero g c =
    let pos = g.met.B.BitBlock.width_law.positive in
    let small = numbers_below g.B.BitBlock.width _ _ _ (λ x is. (g.met.B.BitBlock.number_law x is).0) c.requires.each in
    let ends = shorter_end _ _ _ _ c.min-count.ensures in
    let both = difference_of_blocks _ _ _ _ pos small ends in
    let zeros = c.first_merge_to_zero.ensures.zero.0 c.if-first_merge_to_zero.true in
    let before = c.first_merge_to_zero.ensures.steps.all c.if-first_merge_to_zero.true in
    let rest = c.rest_is_zero.ensures in
    record {
      zero = (λ yes. both.0 (zeros, rest.zero.0 yes), λ falses. rest.zero.1 (both.1 falses).1);
      steps = record {
        stops = λ i first.
            let own = first_of_rest _ _ _ _ i small ends first in
            let stop = rest.stops (i / g.B.BitBlock.width) (first_is_past _ _ _ _ _ i pos zeros first) own.0 own.1 in
            omega (arith, before, stop);
        fewest = omega (arith, before, rest.fewest);
        at_most = omega (arith, before, rest.most);
        all = λ yes. let exact = rest.all yes in omega (arith, before, exact);
      };
    }

pub returns-else-first_merge_to_zero : goal.returns-else-first_merge_to_zero
returns-else-first_merge_to_zero g c =
    let pos = g.met.B.BitBlock.width_law.positive in
    let small = numbers_below g.B.BitBlock.width _ _ _ (λ x is. (g.met.B.BitBlock.number_law x is).0) c.requires.each in
    let both = difference_of_blocks _ _ _ _ pos small (shorter_end _ _ _ _ c.min-count.ensures) in
    let first_part = c.first_merge_to_zero.ensures in
    record {
      zero = (λ yes. absurd (false≢true (sym c.if-first_merge_to_zero.false ∙ yes)), λ falses. first_part.zero.1 (both.1 falses).0);
      steps = record {
        stops = λ i first.
            let in_both : c.min-count.result ≤ i / g.B.BitBlock.width → ⊥ = λ past. false≢true (sym c.if-first_merge_to_zero.false ∙ first_part.zero.1 (zero_before_first _ _ _ _ _ i past first)) in
            first_part.steps.stops i (first, grind (arith, in_both));
        fewest = first_part.steps.fewest;
        at_most = omega (arith, first_part.steps.at_most);
        all = λ yes. absurd (false≢true (sym c.if-first_merge_to_zero.false ∙ yes));
      };
    }
