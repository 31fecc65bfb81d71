use Rattle.bit_blocks.proofs.VectorLemmas.{capacity_covers}
use Rattle.bit_words.proofs.laws.capacity_of_whole_blocks.Goals as goal

pub returns : goal.returns
returns c = capacity_covers
