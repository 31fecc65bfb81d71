use Rattle.std.proofs.Common.{◌≡◌, ℕ, ◌+◌, ◌*◌, ◌<◌, drop, get_or, length}
use Rattle.bit_blocks.specs.Digits.{is_one}
use Rattle.bit_set_c.proofs.bytes.put_bytes.Given as goal

-- the first p bytes are written, and the rest of the slice is as it was
abbrev pub invariant-loop-p : goal.invariant-loop-p
invariant-loop-p l = record {
  room : length l.bytes ≡ length l.fn.bytes;
  digits : (q j : ℕ) → q < l.p → j < 8 → is_one (get_or l.bytes (l.at + q) 0) j ≡ is_one l.block (8 * (l.start + q) + j);
  before : (k : ℕ) → k < l.at → get_or l.bytes k 0 ≡ get_or l.fn.bytes k 0;
  others : drop (l.at + l.p) l.bytes ≡ drop (l.at + l.p) l.fn.bytes;
}
