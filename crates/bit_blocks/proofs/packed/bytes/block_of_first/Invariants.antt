use Rattle.std.proofs.Common.{◌≡◌, ℕ, ◌*◌, ◌<◌, ◌&&◌, nat_lt}
use Rattle.bit_blocks.specs.{Bytes.placed_value, Digits.is_one}
use Rattle.bit_blocks.proofs.packed.bytes.block_of_first.Given as goal

abbrev pub invariant-loop-index : goal.invariant-loop-index
invariant-loop-index g l = record {
  of_block : g.B.BitBlock.is_block l.block;
  digits : (j : ℕ) → j < g.B.BitBlock.width → is_one (g.B.BitBlock.number l.block) j ≡ (nat_lt j (8 * l.index) && placed_value g.T.ByteOrder.place l.bytes j);
}
