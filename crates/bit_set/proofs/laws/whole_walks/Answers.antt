use Rattle.bit_set.proofs.WalkLaws.{walked_out, walked_whole, in_hand, none_for_good, counted}
use Rattle.bit_set.proofs.laws.whole_walks.Goals as goal

pub returns : goal.returns
returns g c = record {
  rest = walked_out g.B.BitBlock.width;
  whole = walked_whole g.B.BitBlock.width;
  in_hand = in_hand g.B.BitBlock.width g.met.B.BitBlock.width_law.positive;
  for_good = none_for_good g.B.BitBlock.width;
  count = counted g.B.BitBlock.width;
}
