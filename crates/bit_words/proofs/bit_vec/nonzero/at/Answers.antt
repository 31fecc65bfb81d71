use Rattle.std.proofs.{Common.refl, lemmas.Option.slice_get_read}
use Rattle.bit_words.proofs.bit_vec.nonzero.at.Goals as goal

pub returns : goal.returns
returns g c = slice_get_read c.args.blocks.now _ c.args.k _ refl c.requires c.index-blocks-k.is
