use Rattle.bit_set.proofs.MissingLaws.{in_range_from_0, parts_apart, parts_counted, parts_joined}
use Rattle.bit_set.proofs.laws.ranges.parts_of_ranges.Goals as goal

pub returns : goal.returns
returns c = record { joined = parts_joined; apart = parts_apart; below = in_range_from_0; count = parts_counted }
