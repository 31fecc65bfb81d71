use Rattle.bit_blocks.proofs.OnesLemmas.{blocks_ones, ones_are_digits}
use Rattle.bit_words.proofs.laws.ones_of_blocks.Goals as goal

pub returns : goal.returns
returns c = record { blocks = blocks_ones; digits = ones_are_digits }
