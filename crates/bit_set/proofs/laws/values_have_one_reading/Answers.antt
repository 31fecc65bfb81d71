use Rattle.bit_set.proofs.JsonLemmas.{one_fault, one_list, same_numbers, spelt_has_no_fault}
use Rattle.bit_set.proofs.laws.values_have_one_reading.Goals as goal

pub returns : goal.returns
returns c = record {
  reading = λ w value ms ns m n one other. same_numbers w value ms ns m n one.numbers other.numbers;
  values = one_list;
  no_fault = spelt_has_no_fault;
  one_fault = one_fault;
}
