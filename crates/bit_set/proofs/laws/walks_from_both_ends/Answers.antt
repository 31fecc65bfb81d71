use Rattle.bit_set.proofs.WalkLaws.{both_ends, both_ends_whole, none_back_for_good}
use Rattle.bit_set.proofs.laws.walks_from_both_ends.Goals as goal

pub returns : goal.returns
returns g c = record {
  rest = both_ends g.B.BitBlock.width;
  whole = both_ends_whole g.B.BitBlock.width;
  for_good = none_back_for_good g.B.BitBlock.width;
}
