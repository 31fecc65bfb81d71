use Rattle.std.proofs.Common.{◌≡◌, ◌↔◌}
use Rattle.bit_blocks.specs.BlockMerges.{AreOthers}
use Rattle.bit_blocks.proofs.packed.differences.differences.Given as goal

abbrev pub invariant-loop-k : goal.invariant-loop-k
invariant-loop-k g l = record {
  of_block : g.B.BitBlock.is_block l.difference;
  same : (g.B.BitBlock.number l.difference ≡ 0) ↔ AreOthers g.B.BitBlock.width g.B.BitBlock.number l.start l.k (g.S.Others.digit l.others) l.blocks;
}
