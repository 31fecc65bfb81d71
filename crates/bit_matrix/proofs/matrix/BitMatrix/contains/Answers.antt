use Rattle.std.proofs.Common.{◌∙◌, length, arith}
use Rattle.bit_matrix.proofs.{SeenLemmas.{IsPlace, place, seen_bit}, matrix.BitMatrix.contains.Goals.After-self}
use Rattle.bit_matrix.proofs.matrix.BitMatrix.contains.Goals as goal

at : (g : _) (c : After-self g) → IsPlace g.B.BitBlock.width c.self.inside.stride c.args.row c.args.column (length c.self.inside.blocks.items)
at g c = place g.met.B.BitBlock.width_law.positive c.self.invariant c.self.view_is c.args.row c.args.column c.requires.row c.requires.column

pub bit_index_of-requires-clause-fits : goal.bit_index_of-requires-clause-fits
bit_index_of-requires-clause-fits g c = (at g (goal.at.bit_index_of-requires-clause-fits g c).After-self).fits

pub bit_index_of-requires-clause-within : goal.bit_index_of-requires-clause-within
bit_index_of-requires-clause-within g c = (at g (goal.at.bit_index_of-requires-clause-within g c).After-self).within

pub get_bit-requires-clause-in_bounds : goal.get_bit-requires-clause-in_bounds
get_bit-requires-clause-in_bounds g c = let block = (at g (goal.at.get_bit-requires-clause-in_bounds g c).After-self).block in rw (c.deref.ensures.value, c.bit_index_of.ensures) (omega (arith, block))

pub returns : goal.returns
returns g c =
    rw (c.deref.ensures.value, c.bit_index_of.ensures) at c.get_bit.ensures
    ∙ seen_bit g.met.B.BitBlock.width_law.positive c.self.invariant c.self.view_is c.args.row c.args.column c.requires.row
    c.requires.column
