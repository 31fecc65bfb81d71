use Rattle.std.proofs.Common.{sym, add-one}
use Rattle.bit_set.proofs.RangeTextLemmas.{all_digits_more, number_of-other, saturated_more}
use Rattle.bit_set.proofs.range_texts.read_number.Goals as goal

pub returns-then-not-is_ascii_digit : goal.returns-then-not-is_ascii_digit
returns-then-not-is_ascii_digit c = sym (number_of-other c.args.digits.now c.loop-digit.digit-index c.loop-digit-test.true (sym c.if-not-is_ascii_digit.ensures.value))

pub loop-digit-preserved : goal.loop-digit-preserved
loop-digit-preserved c = record {
  digits = rw add-one (all_digits_more c.args.digits.now c.loop-digit.digit-index c.loop-digit-test.true c.loop-digit.invariant.digits (sym c.if-not-is_ascii_digit.ensures.value));
  value = saturated_more c.args.digits.now c.loop-digit.digit-index c.loop-digit.number _ _ c.loop-digit-test.true
      c.if-not-is_ascii_digit.ensures.cases c.loop-digit.invariant.value c.saturating_mul.ensures (rw c.from.ensures at c.saturating_add-number.ensures);
}
