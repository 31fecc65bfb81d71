use Rattle.bit_set.proofs.MissingLaws.{first_is_least, last_is_greatest, next_is_least, previous_is_greatest}
use Rattle.bit_set.proofs.laws.ranges.ends_of_searches.Goals as goal

pub returns : goal.returns
returns c = record { first = first_is_least; last = last_is_greatest; next = next_is_least; previous = previous_is_greatest }
