use Rattle.std.proofs.Common.{◌≡◌, ℕ, ◌+◌, ◌*◌, ◌<◌, get_or, map}
use Rattle.bit_blocks.specs.Written.{WritesBlocks}
use Rattle.bit_matrix.proofs.squares.load_strip.Given as goal

-- the blocks of the rows before this one are there
abbrev pub invariant-loop-row : goal.invariant-loop-row
invariant-loop-row g l = record {
  loaded : (i q : ℕ) → i < g.B.BitBlock.width → q < l.width → q * g.B.BitBlock.width + i < l.row
      → get_or (map g.B.BitBlock.number l.strip) (i * l.width + q) 0 ≡ get_or (map g.B.BitBlock.number l.blocks)
      ((q * g.B.BitBlock.width + i) * l.stride + l.k) 0;
  written : WritesBlocks g.B.BitBlock.is_block l.fn.strip l.strip;
}
