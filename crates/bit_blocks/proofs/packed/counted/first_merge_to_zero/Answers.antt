use Rattle.std.proofs.{Common.{◌≡◌, ℕ, ◌+◌, ◌<◌, List, get_or, sym, ◌∙◌, arith}, lemmas.Bool.{false≢true, eqb-true}}
use Rattle.bit_blocks.specs.{BlockMerges.MergesToZero, Digits.is_one, Merges.merge_of_values}
use Rattle.bit_blocks.{specs.declared.block.merge.Merge.Merge, proofs.CompareLemmas.first_is_past}
use Rattle.bit_blocks.proofs.CompareLemmas.{mismatch_zero, merge_of_zeros, first_is_here, zeros_more}
use Rattle.bit_blocks.proofs.packed.counted.first_merge_to_zero.Goals as goal

pub loop-k-preserved : goal.loop-k-preserved
loop-k-preserved g c = record {
  zero = zeros_more _ _ _ _ c.loop-k.k _ _ _ c.loop-k.invariant.zero c.block_at.ensures.of_number c.block_at-in-loop-k.ensures.of_number c.of_blocks-merged.ensures.digits
      (eqb-true _ _ (sym c.same.ensures ∙ c.if-not-same.false) ∙ c.zero.ensures.of_number);
  steps = omega arith;
}

pub returns-then-not-same : goal.returns-then-not-same
returns-then-not-same g c =
    let small = (g.met.B.BitBlock.number_law _ c.of_blocks-merged.ensures.of_block).0 in
    let some = mismatch_zero _ _ c.same.result c.same.ensures c.if-not-same.true c.zero.ensures.of_number in
    record {
      zero = (
        λ yes. absurd (false≢true yes),
        λ zeros. absurd (some (merge_of_zeros _ _ _ _ _ c.loop-k.k _ _ _ small c.block_at.ensures.of_number
            c.block_at-in-loop-k.ensures.of_number c.of_blocks-merged.ensures.digits c.loop-k-test.true zeros)),
      );
      steps = record {
        stops = λ i first.
            let here = first_is_here _ _ _ _ c.loop-k.k _ _ _ i g.met.B.BitBlock.width_law.positive small
            c.block_at.ensures.of_number c.block_at-in-loop-k.ensures.of_number c.of_blocks-merged.ensures.digits some
            c.loop-k.invariant.zero first.0 in
            omega (arith, here);
        fewest = omega arith;
        at_most = omega arith;
        all = λ yes. absurd (false≢true yes);
      };
    }

pub returns-clause-steps : goal.returns-clause-steps
returns-clause-steps g c =
    let end : c.loop-k.k ≡ c.args.count = omega arith in
    record {
      stops = λ i first.
          let past = first_is_past _ _ _ _ _ i g.met.B.BitBlock.width_law.positive c.loop-k.invariant.zero first.0 in
          absurd (omega (arith, past, end, first.1));
      fewest = omega arith;
      at_most = omega (arith, end);
      all = λ _. omega (arith, end);
    }
