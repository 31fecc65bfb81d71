use Rattle.std.proofs.Common.{sym, ◌∙◌, refl, div-add-mod'}
use Rattle.bit_blocks.proofs.packed.access.place_of.Goals as goal

pub returns : goal.returns
returns g c = record {
  whole = sym (div-add-mod' c.args.i g.B.BitBlock.width) ∙ rw (c.block_index.ensures, c.bit_index.ensures.value) refl;
  within = c.bit_index.ensures.within;
}
