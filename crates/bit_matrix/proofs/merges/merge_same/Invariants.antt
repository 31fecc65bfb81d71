use Rattle.std.proofs.Common.{◌≡◌, ℕ, ◌+◌, ◌<◌, ◌↔◌, All, get_or, length, map}
use Rattle.bit_matrix.specs.Merges.{IsMergedPart}
use Rattle.bit_matrix.proofs.merges.merge_same.Given as goal

abbrev pub invariant-loop-k : goal.invariant-loop-k
invariant-loop-k g l = record {
  merged : IsMergedPart g.O.Operation.merge g.B.BitBlock.width l.start l.start l.k (map g.B.BitBlock.number l.fn.blocks) (map g.B.BitBlock.number l.fn.blocks) (map g.B.BitBlock.number l.blocks);
  none : (g.B.BitBlock.number l.mismatch ≡ 0) ↔ ((q : ℕ) → q < l.k → get_or (map g.B.BitBlock.number l.blocks) (l.start + q) 0 ≡ get_or (map g.B.BitBlock.number l.fn.blocks) (l.start + q) 0);
  of_block : g.B.BitBlock.is_block l.mismatch;
  each : All g.B.BitBlock.is_block l.blocks;
  len : length l.blocks ≡ length l.fn.blocks;
}
