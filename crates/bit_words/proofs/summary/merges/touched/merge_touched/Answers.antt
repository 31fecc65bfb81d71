use Rattle.std.proofs.Common.{◌≡◌, ◌∙◌, ◌==◌, not, ap, arith}
use Rattle.bit_words.proofs.TouchedLemmas.{fewer_ones, partly_all, partly_more, partly_none}
use Rattle.bit_words.proofs.summary.merges.touched.merge_touched.Goals as goal

pub loop-others-init : goal.loop-others-init
loop-others-init g
    c = record { of_left = c.requires.of_touched; of_digits = c.requires.of_own; partly = partly_none _ _ _ _ _ _ _ _ _ c.requires.can.each c.requires.says c.requires.within c.requires.kept }

pub loop-others-smaller : goal.loop-others-smaller
loop-others-smaller g c =
    let taken = c.take_lowest_one-p.ensures in
    omega (arith, fewer_ones g.B.BitBlock.width _ _ _ g.B.BitBlock.width taken.lowest taken.cleared (omega arith) taken.within)

pub loop-others-preserved : goal.loop-others-preserved
loop-others-preserved g c =
    let taken = c.take_lowest_one-p.ensures in
    let merged = c.merge_any-merged.ensures in
    let used = c.with_bit-digits.ensures.same ∙ c.is_nonzero-in-loop-others.ensures ∙ ap (λ n. not (n == 0)) merged.of_number in
    record {
      of_left = taken.of_block;
      of_digits = c.with_bit-digits.ensures.of_block;
      partly = partly_more _ _ _ _ c.args.q _ _ _ _ _ _ _ _ _ taken.within taken.lowest taken.cleared
          (rw c.bits.ensures at merged.has) (rw c.bits.ensures at used) c.with_bit-digits.ensures.others
          c.loop-others.invariant.partly;
    }

pub returns-clause-has : goal.returns-clause-has
returns-clause-has g c =
    let none : g.B.BitBlock.number c.loop-others.left ≡ 0 = grind (arith, c.is_nonzero.ensures, c.loop-others-test.false) in
    partly_all _ _ _ _ _ _ _ _ _ _ none c.loop-others.invariant.partly
