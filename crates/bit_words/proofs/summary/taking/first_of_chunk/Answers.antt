use Rattle.std.proofs.Common.{map}
use Rattle.bit_blocks.{specs.{Searches.IsFirstFrom, Storage.is_used}, proofs.SearchLemmas.value_fits}
use Rattle.bit_words.proofs.StartLemmas.{first_of_first, first_used}
use Rattle.bit_words.proofs.summary.taking.first_of_chunk.{Given.Over, Goals.After-first_of_block}
use Rattle.bit_words.proofs.summary.taking.first_of_chunk.Goals as goal

-- the first block that is not 0
block : (g : Over) (c : After-first_of_block g) → IsFirstFrom (is_used (map g.B.BitBlock.number c.args.blocks.now)) 0 c.first_of_block.result
block g c =
    first_used g.B.BitBlock.width g.B.BitBlock.number g.B.BitBlock.is_block c.args.blocks.now c.args.summary.now
    g.met.B.BitBlock.width_law.positive c.requires.summary c.args.chunk _ c.requires.first c.first_of_block.ensures

pub first_of_block-requires-clause-fits : goal.first_of_block-requires-clause-fits
first_of_block-requires-clause-fits g c = value_fits _ _ _ c.requires.summary.packed.tail c.requires.summary.packed.fits

pub first_of_block-requires-2-clause-used : goal.first_of_block-requires-2-clause-used
first_of_block-requires-2-clause-used g c = (block g (goal.at.first_of_block-requires-2-clause-used g c).After-first_of_block).passes

pub returns : goal.returns
returns g c =
    first_of_first g.B.BitBlock.width _ _ (map g.B.BitBlock.number c.args.blocks.now) g.met.B.BitBlock.width_law.positive
    (block g (goal.at.returns g c).After-first_of_block) c.first_of_block-2.ensures
