use Rattle.std.proofs.Common.{◌≡◌, ℕ, ◌+◌, ◌*◌, ◌<◌, map, get_or, All, vec_len, vec_capacity}
use Rattle.bit_blocks.specs.{Bytes.placed_value, Digits.is_one}
use Rattle.bit_blocks.proofs.packed.bytes.blocks_in_order.Given as goal

abbrev pub invariant-loop-k : goal.invariant-loop-k
invariant-loop-k g l = record {
  count : vec_len l.blocks ≡ l.k;
  capacity : vec_capacity l.blocks ≡ l.count;
  each : All g.B.BitBlock.is_block l.blocks.items;
  digits : (q j : ℕ) → q < l.k → j < g.B.BitBlock.width → is_one (get_or (map g.B.BitBlock.number l.blocks.items) q 0) j ≡ placed_value g.T.ByteOrder.place l.bytes (q * g.B.BitBlock.width + j);
}
