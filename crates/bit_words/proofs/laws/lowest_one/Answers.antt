use Rattle.bit_blocks.proofs.LowestLemmas.{lowest_found}
use Rattle.bit_words.proofs.laws.lowest_one.Goals as goal

pub returns : goal.returns
returns c = lowest_found
