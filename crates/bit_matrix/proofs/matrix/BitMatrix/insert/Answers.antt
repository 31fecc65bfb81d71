use Rattle.std.proofs.Common.{◌∙◌, length, not, true, refl, ap, arith}
use Rattle.bit_set.proofs.SetLemmas.{has-put}
use Rattle.bit_matrix.specs.Matrices.{row_of}
use Rattle.bit_matrix.proofs.{SeenLemmas.{IsPlace, as_long, becomes_put, place, seen_bit, written_table}, TableLemmas.{changes_row}, matrix.BitMatrix.insert.Goals.{After-self}}
use Rattle.bit_matrix.proofs.matrix.BitMatrix.insert.Goals as goal

at : (g : _) (c : After-self g) → IsPlace g.B.BitBlock.width c.self.inside.stride c.args.row c.args.column (length c.self.inside.blocks.items)
at g c = place g.met.B.BitBlock.width_law.positive c.self.invariant c.self.view_is c.args.row c.args.column c.requires.row c.requires.column

pub bit_index_of-i-requires-clause-fits : goal.bit_index_of-i-requires-clause-fits
bit_index_of-i-requires-clause-fits g c = (at g (goal.at.bit_index_of-i-requires-clause-fits g c).After-self).fits

pub bit_index_of-i-requires-clause-within : goal.bit_index_of-i-requires-clause-within
bit_index_of-i-requires-clause-within g c = (at g (goal.at.bit_index_of-i-requires-clause-within g c).After-self).within

pub replace_bit-requires-clause-in_bounds : goal.replace_bit-requires-clause-in_bounds
replace_bit-requires-clause-in_bounds g c = let block = (at g (goal.at.replace_bit-requires-clause-in_bounds g c).After-self).block in rw c.bit_index_of-i.ensures (omega (arith, block))

pub invariant_of-self : goal.invariant_of-self
invariant_of-self g c =
    let written = rw c.bit_index_of-i.ensures at c.replace_bit.ensures.value in
    written_table g.met.B.BitBlock.width_law.positive c.self.invariant c.self.view_is c.replace_bit.new.blocks.items
    c.args.row c.args.column true c.requires.row c.requires.column written c.replace_bit.ensures.in_place.each
    (as_long _ c.self.inside.blocks c.replace_bit.new.blocks c.replace_bit.ensures.in_place)

pub returns-clause-new : goal.returns-clause-new
returns-clause-new g c =
    ap not (rw c.bit_index_of-i.ensures at c.replace_bit.ensures.was
    ∙ seen_bit g.met.B.BitBlock.width_law.positive c.self.invariant c.self.view_is c.args.row c.args.column c.requires.row
    c.requires.column)

pub returns-clause-matrix : goal.returns-clause-matrix
returns-clause-matrix g c =
    let written = rw c.bit_index_of-i.ensures at c.replace_bit.ensures.value in
    becomes_put g.met.B.BitBlock.width_law.positive c.self.invariant c.self.view_is c.replace_bit.new.blocks.items c.args.row c.args.column true c.requires.row c.requires.column written refl

pub returns-clause-members : goal.returns-clause-members
returns-clause-members g c = changes_row c.args.self.now _ c.args.row _ _ c.requires.row (returns-clause-matrix g c) (has-put (row_of c.args.self.now c.args.row) c.args.column)
