use Rattle.std.proofs.Common.{sym, add-one}
use Rattle.bit_set_commands.proofs.ReadingLemmas.{all_digits_more, fitting_number-more, number_of-other}
use Rattle.bit_set_commands.proofs.reading.read_number.Goals as goal

pub returns-then-not-is_ascii_digit : goal.returns-then-not-is_ascii_digit
returns-then-not-is_ascii_digit c =
    rw (number_of-other c.args.word.now c.loop-byte.byte-index c.loop-byte-test.true (sym c.if-not-is_ascii_digit.ensures.value))

pub loop-byte-preserved : goal.loop-byte-preserved
loop-byte-preserved c = record {
  digits = rw add-one (all_digits_more c.args.word.now c.loop-byte.byte-index c.loop-byte-test.true c.loop-byte.invariant.digits (sym c.if-not-is_ascii_digit.ensures.value));
  value = fitting_number-more c.args.word.now c.loop-byte.byte-index c.loop-byte.number c.with_digit-number.result c.loop-byte-test.true c.if-not-is_ascii_digit.ensures.cases c.with_digit-number.ensures c.loop-byte.invariant.value;
}
