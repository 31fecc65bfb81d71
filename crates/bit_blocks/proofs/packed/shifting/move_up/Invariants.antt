use Rattle.std.proofs.Common.{◌≡◌, ℕ, ◌<◌, ◌≤◌, map, length, get_or}
use Rattle.bit_blocks.specs.{Shifts.IsMovedUp, Written.WritesBlocks}
use Rattle.bit_blocks.proofs.packed.shifting.move_up.Given as goal

-- the blocks from k on were written, and those below it were not
abbrev pub invariant-loop-k : goal.invariant-loop-k
invariant-loop-k g l = record {
  moved : (q : ℕ) → l.k ≤ q → q < length l.fn.blocks → IsMovedUp g.B.BitBlock.width (map g.B.BitBlock.number l.fn.blocks) l.distance q (get_or (map g.B.BitBlock.number l.blocks) q 0);
  rest : (q : ℕ) → q < l.k → get_or (map g.B.BitBlock.number l.blocks) q 0 ≡ get_or (map g.B.BitBlock.number l.fn.blocks) q 0;
  written : WritesBlocks g.B.BitBlock.is_block l.fn.blocks l.blocks;
}
