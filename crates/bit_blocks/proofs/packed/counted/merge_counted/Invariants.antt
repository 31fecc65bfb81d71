use Rattle.std.proofs.Common.{◌≡◌, ◌+◌, map}
use Rattle.bit_blocks.specs.BlockMerges.{other_at, HasMerged}
use Rattle.bit_blocks.proofs.packed.counted.merge_counted.Given as goal

abbrev pub invariant-loop-k : goal.invariant-loop-k
invariant-loop-k g l = record {
  has : HasMerged l.merge g.B.BitBlock.width g.B.BitBlock.number g.B.BitBlock.is_block 0 l.k (other_at (map g.B.BitBlock.number l.others)) l.fn.blocks l.blocks;
  steps : l.steps ≡ l.fn.steps + l.k;
}
