use Rattle.std.proofs.Common.{◌≡◌, ℕ, ◌<◌, ◌≤◌, false}
use Rattle.bit_blocks.specs.Digits.{is_one}
use Rattle.bit_blocks.proofs.packed.bytes.lowest_byte.Given as goal

abbrev pub invariant-loop-j : goal.invariant-loop-j
invariant-loop-j g l = record {
  small : l.byte < 256;
  digits : (i : ℕ) → i < l.j → is_one l.byte i ≡ is_one (g.B.BitBlock.number l.block) i;
  clear : (i : ℕ) → l.j ≤ i → i < 8 → is_one l.byte i ≡ false;
}
