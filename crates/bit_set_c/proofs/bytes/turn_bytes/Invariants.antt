use Rattle.std.proofs.Common.{◌≡◌, ℕ, ◌-◌, ◌<◌, drop, get_or, length}
use Rattle.bit_blocks.specs.Digits.{is_one}
use Rattle.bit_set_c.proofs.bytes.turn_bytes.Given as goal

-- the first q bytes are turned, and the rest of the slice is as it was
abbrev pub invariant-loop-q : goal.invariant-loop-q
invariant-loop-q l = record {
  room : length l.bytes ≡ length l.fn.bytes;
  turned : (p j : ℕ) → p < l.q → j < 8 → is_one (get_or l.bytes p 0) (7 - j) ≡ is_one (get_or l.fn.bytes p 0) j;
  others : drop l.q l.bytes ≡ drop l.q l.fn.bytes;
}
