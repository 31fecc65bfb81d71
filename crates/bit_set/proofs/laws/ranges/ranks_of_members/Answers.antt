use Rattle.bit_set.proofs.PartLaws.{selected_by_rank}
use Rattle.bit_set.proofs.laws.ranges.ranks_of_members.Goals as goal

pub returns : goal.returns
returns c = record { selected = selected_by_rank }
