use Rattle.std.{specs.{Str.all_ascii_digits, Str.Parse.digits_value}, proofs.Common.{◌≡◌, true, take}}
use Rattle.bit_set_commands.specs.Reading.{fitting_number}
use Rattle.bit_set_commands.proofs.reading.read_number.Given as goal

abbrev pub invariant-loop-byte : goal.invariant-loop-byte
invariant-loop-byte l = record {
  digits : all_ascii_digits (take l.byte-index l.word) ≡ true;
  value : l.number ≡ fitting_number (digits_value 10 (take l.byte-index l.word));
}
