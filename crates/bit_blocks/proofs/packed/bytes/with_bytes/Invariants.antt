use Rattle.std.proofs.Common.{◌≡◌, ℕ, ◌+◌, ◌*◌, ◌<◌, get_or, vec_len, vec_capacity}
use Rattle.bit_blocks.specs.Digits.{is_one}
use Rattle.bit_blocks.proofs.packed.bytes.with_bytes.Given as goal

abbrev pub invariant-loop-p : goal.invariant-loop-p
invariant-loop-p g l = record {
  len : vec_len l.bytes ≡ vec_len l.fn.bytes + l.p;
  capacity : vec_capacity l.bytes ≡ vec_capacity l.fn.bytes;
  kept : (q : ℕ) → q < vec_len l.fn.bytes → get_or l.bytes.items q 0 ≡ get_or l.fn.bytes.items q 0;
  digits : (p j : ℕ) → p < l.p → j < 8 → is_one (get_or l.bytes.items (vec_len l.fn.bytes + p) 0) (g.T.ByteOrder.place j) ≡ is_one (g.B.BitBlock.number l.block) (8 * p + j);
}
