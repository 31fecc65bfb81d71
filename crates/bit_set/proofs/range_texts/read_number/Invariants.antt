use Rattle.std.{proofs.Common.{◌≡◌, ◌-◌, ◌^◌, true, min, take}, specs.{Str.all_ascii_digits, Str.Parse.digits_value}}
use Rattle.bit_set.proofs.range_texts.read_number.Given as goal

-- the digits so far, and their number, or the greatest where they write that or more
abbrev pub invariant-loop-digit : goal.invariant-loop-digit
invariant-loop-digit l = record {
  digits : all_ascii_digits (take l.digit-index l.digits) ≡ true;
  value : l.number ≡ min (digits_value 10 (take l.digit-index l.digits)) (2 ^ 64 - 1);
}
