use Rattle.std.proofs.Common.{◌≡◌, ◌+◌, refl, arith}
use Rattle.bit_blocks.proofs.BlockMergeLemmas.{merged_more, merged_none}
use Rattle.bit_blocks.proofs.packed.block_merges.merge_between.Goals as goal

pub loop-k-init : goal.loop-k-init
loop-k-init g c = merged_none _ _ _ _ _ _ _ _ c.requires.can.each (omega arith)

pub loop-k-preserved : goal.loop-k-preserved
loop-k-preserved g c =
    merged_more _ _ _ _ c.args.start c.loop-k.k (c.loop-k.k + 1) _ _ _ _ _ _ c.loop-k.auto.k (omega arith) refl refl c.loop-k.invariant c.merge_block-merged.ensures.has

pub returns : goal.returns
returns g c =
    let end : c.loop-k.k ≡ c.args.end = omega arith in
    record { has = rw end at c.loop-k.invariant }
