use Rattle.std.proofs.Common.{◌≡◌, ℕ, ◌+◌, ◌*◌, ◌/◌, ◌%◌, ◌<◌, drop, get_or, length}
use Rattle.bit_blocks.specs.Digits.{is_one}
use Rattle.bit_set_c.specs.Block.{width}
use Rattle.bit_set_c.proofs.bytes.put_whole.Given as goal

-- the bytes of the first k blocks are written, and the rest of the slice is as it was
abbrev pub invariant-loop-k : goal.invariant-loop-k
invariant-loop-k l = record {
  room : length l.bytes ≡ length l.fn.bytes;
  digits : (p j : ℕ) → p < width / 8 * l.k → j < 8 → is_one (get_or l.bytes (l.at + p) 0) j ≡ is_one (get_or l.blocks (p / (width / 8)) 0) (8 * (p % (width / 8)) + j);
  before : (n : ℕ) → n < l.at → get_or l.bytes n 0 ≡ get_or l.fn.bytes n 0;
  others : drop (l.at + width / 8 * l.k) l.bytes ≡ drop (l.at + width / 8 * l.k) l.fn.bytes;
}
