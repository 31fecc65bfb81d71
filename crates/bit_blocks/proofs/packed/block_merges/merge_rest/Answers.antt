use Rattle.std.proofs.Common.{◌≡◌, ◌+◌, ◌∙◌, ap, false, length, refl, arith}
use Rattle.bit_blocks.{specs.Digits.is_one, proofs.{Masks.is_one-zero, BlockMergeLemmas.{merged_more, merged_none, merged_put, merged_same}}}
use Rattle.bit_blocks.proofs.packed.block_merges.merge_rest.Goals as goal

pub loop-k-init : goal.loop-k-init
loop-k-init g c = merged_none _ _ _ _ _ _ _ _ c.requires.each (omega arith)

pub loop-k-preserved : goal.loop-k-preserved
loop-k-preserved g c =
    let k = c.loop-k.k in
    let put = merged_put _ g.B.BitBlock.width g.B.BitBlock.number _ k _ _ _ _ _
    (omega arith) c.put_in.ensures.numbers c.put_in.ensures.each c.put_in.ensures.len c.block_at.ensures.of_number
    c.of_blocks-merged.ensures.digits in
    let one = merged_same _ _ _ _ k (k + 1) _ (λ q j. false) _ _ (λ q j from below index. ap (λ n. is_one n j) c.zero-zero.ensures.of_number ∙ is_one-zero j) put in
    merged_more _ _ _ _ c.args.start k (k + 1) _ _ _ _ _ _ c.loop-k.auto.k (omega arith) refl refl c.loop-k.invariant one

pub returns : goal.returns
returns g c =
    let end : c.loop-k.k ≡ length c.args.blocks.now = omega arith in
    record { has = rw end at c.loop-k.invariant }
