use Rattle.std.proofs.Common.{◌≡◌, ℕ, ◌+◌, ◌*◌, ◌<◌, map, get_or, vec_len, vec_capacity}
use Rattle.bit_blocks.specs.{Digits.is_one, Storage.value_at}
use Rattle.bit_blocks.proofs.packed.bytes.bytes_in_order.Given as goal

abbrev pub invariant-loop-k : goal.invariant-loop-k
invariant-loop-k g l = record {
  count : vec_len l.bytes ≡ l.k * l.step;
  capacity : vec_capacity l.bytes ≡ l.count;
  digits : (q j : ℕ) → q < l.k * l.step → j < 8 → is_one (get_or l.bytes.items q 0) (g.T.ByteOrder.place j) ≡ value_at g.B.BitBlock.width (map g.B.BitBlock.number l.blocks) (8 * q + j);
}
