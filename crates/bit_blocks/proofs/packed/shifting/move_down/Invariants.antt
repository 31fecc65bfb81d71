use Rattle.std.proofs.Common.{◌≡◌, ℕ, ◌<◌, ◌≤◌, map, get_or}
use Rattle.bit_blocks.specs.{Shifts.IsMovedDown, Written.WritesBlocks}
use Rattle.bit_blocks.proofs.packed.shifting.move_down.Given as goal

-- the blocks below k were written, and those from it on were not
abbrev pub invariant-loop-k : goal.invariant-loop-k
invariant-loop-k g l = record {
  moved : (q : ℕ) → q < l.k → IsMovedDown g.B.BitBlock.width (map g.B.BitBlock.number l.fn.blocks) l.distance q (get_or (map g.B.BitBlock.number l.blocks) q 0);
  rest : (q : ℕ) → l.k ≤ q → get_or (map g.B.BitBlock.number l.blocks) q 0 ≡ get_or (map g.B.BitBlock.number l.fn.blocks) q 0;
  written : WritesBlocks g.B.BitBlock.is_block l.fn.blocks l.blocks;
}
