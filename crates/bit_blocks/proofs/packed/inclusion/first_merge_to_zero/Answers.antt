use Rattle.std.proofs.{Common.{◌≡◌, sym, refl, ◌∙◌, arith}, lemmas.Bool.{false≢true, eqb-true}}
use Rattle.bit_blocks.proofs.CompareLemmas.{mismatch_zero, merge_of_zeros, zeros_more}
use Rattle.bit_blocks.proofs.packed.inclusion.first_merge_to_zero.Goals as goal

pub loop-k-preserved : goal.loop-k-preserved
loop-k-preserved g c =
    zeros_more _ _ _ _ c.loop-k.k _ _ _ c.loop-k.invariant c.block_at.ensures.of_number c.block_at-in-loop-k.ensures.of_number c.of_blocks-merged.ensures.digits
    (eqb-true _ _ (sym c.same.ensures ∙ c.if-not-same.false) ∙ c.zero.ensures.of_number)

pub returns-then-not-same : goal.returns-then-not-same
returns-then-not-same g c =
    let small = (g.met.B.BitBlock.number_law _ c.of_blocks-merged.ensures.of_block).0 in
    let some = mismatch_zero _ _ c.same.result c.same.ensures c.if-not-same.true c.zero.ensures.of_number in (
      λ yes. absurd (false≢true yes),
      λ zeros. absurd (some (merge_of_zeros _ _ _ _ _ c.loop-k.k _ _ _ small c.block_at.ensures.of_number
          c.block_at-in-loop-k.ensures.of_number c.of_blocks-merged.ensures.digits c.loop-k-test.true zeros)),
    )

pub returns : goal.returns
returns g c =
    let end : c.loop-k.k ≡ c.args.count = omega arith in
    (λ _. rw end at c.loop-k.invariant, λ _. refl)
