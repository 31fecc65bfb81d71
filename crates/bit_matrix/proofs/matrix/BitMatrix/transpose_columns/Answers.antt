use Rattle.std.proofs.{Common.{◌≡◌, ◌+◌, ◌*◌, ◌≤◌, drop, length, map, sym, ap, ◌∙◌, arith}, lemmas.List.{take_at}}
use Rattle.bit_matrix.{specs.Squares.AreRowsTransposed, proofs.SeenLemmas.{seen_columns, seen_rows}}
use Rattle.bit_matrix.proofs.{StripLemmas.{other_bits, strip_bits, strip_within, turned_table}, TableLemmas.{length-rows_in}}
use Rattle.bit_matrix.proofs.matrix.BitMatrix.transpose_columns.Goals.{After-transpose_into}
use Rattle.bit_matrix.proofs.matrix.BitMatrix.transpose_columns.Goals as goal

long : (g : _) (c : After-transpose_into g) → length c.transpose_into.new.blocks ≡ c.self.inside.blocks.len
long g c = omega (arith, c.transpose_into.ensures.written.len, c.as_mut_slice.ensures.len)

as_rows : (g : _) (c : After-transpose_into g) → c.self.inside.rows ≡ c.matrix.inside.columns
as_rows g c =
    let pos = g.met.B.BitBlock.width_law.positive in
    sym (seen_rows pos c.self.invariant c.self.view_is) ∙ c.requires.shape.rows ∙ seen_columns pos c.matrix.invariant c.matrix.view_is

as_columns : (g : _) (c : After-transpose_into g) → c.self.inside.columns ≡ c.matrix.inside.rows
as_columns g c =
    let pos = g.met.B.BitBlock.width_law.positive in
    sym (seen_columns pos c.self.invariant c.self.view_is) ∙ c.requires.shape.columns ∙ seen_rows pos c.matrix.invariant c.matrix.view_is

whole : (g : _) (c : After-transpose_into g) → (c.args.k + 1) * g.B.BitBlock.width ≤ c.matrix.inside.columns
whole g c = omega (arith, c.requires.whole, seen_columns g.met.B.BitBlock.width_law.positive c.matrix.invariant c.matrix.view_is)

rows : (g : _) (c : After-transpose_into g) → AreRowsTransposed g.B.BitBlock.width c.self.inside.stride
    c.matrix.inside.stride c.args.k (map g.B.BitBlock.number c.matrix.inside.blocks.items)
    (map g.B.BitBlock.number c.self.inside.blocks.items) (map g.B.BitBlock.number c.transpose_into.new.blocks)
rows g c = rw (c.deref.ensures.value, c.as_mut_slice.ensures.value) at c.transpose_into.ensures.transposed

pub invariant_of-self : goal.invariant_of-self
invariant_of-self g c =
    let at = (goal.at.invariant_of-self g c).After-transpose_into in
    let new = c.transpose_into.new.blocks in
    rw (take_at new (drop (length new) c.self.inside.blocks.items) c.self.inside.blocks.len (long g at))
    (turned_table c.transpose_into.new.blocks c.args.k g.met.B.BitBlock.width_law.positive c.matrix.invariant
    c.matrix.view_is c.self.invariant c.self.view_is (as_rows g at) (as_columns g at) (whole g at)
    (rows g at) c.transpose_into.ensures.written.each (c.transpose_into.ensures.written.len ∙ ap length c.as_mut_slice.ensures.value))

pub returns-clause-inside : goal.returns-clause-inside
returns-clause-inside g c =
    let at = (goal.at.returns-clause-inside g c).After-transpose_into in
    let new = c.transpose_into.new.blocks in
    rw (take_at new (drop (length new) c.self.inside.blocks.items) c.self.inside.blocks.len (long g at))
    (strip_bits c.transpose_into.new.blocks c.args.k g.met.B.BitBlock.width_law.positive c.matrix.invariant c.matrix.view_is
    c.self.invariant c.self.view_is (as_rows g at) (as_columns g at) (whole g at) (rows g at))

pub returns-clause-others : goal.returns-clause-others
returns-clause-others g c =
    let at = (goal.at.returns-clause-others g c).After-transpose_into in
    let new = c.transpose_into.new.blocks in
    rw (take_at new (drop (length new) c.self.inside.blocks.items) c.self.inside.blocks.len (long g at))
    (other_bits c.transpose_into.new.blocks c.args.k g.met.B.BitBlock.width_law.positive c.matrix.invariant c.matrix.view_is
    c.self.invariant c.self.view_is (as_rows g at) (as_columns g at) (whole g at) (rows g at))

pub returns-clause-shape : goal.returns-clause-shape
returns-clause-shape g c = record {
  rows = length-rows_in g.B.BitBlock.width c.self.inside.stride c.self.inside.columns c.self.inside.rows _ ∙ sym (seen_rows g.met.B.BitBlock.width_law.positive c.self.invariant c.self.view_is);
  columns = sym (seen_columns g.met.B.BitBlock.width_law.positive c.self.invariant c.self.view_is);
}

pub transpose_into-requires-clause-inside : goal.transpose_into-requires-clause-inside
transpose_into-requires-clause-inside g c =
    let pos = g.met.B.BitBlock.width_law.positive in
    let whole : (c.args.k + 1) * g.B.BitBlock.width ≤ c.self.inside.rows = omega (arith, c.requires.whole, c.requires.shape.rows, seen_rows pos c.self.invariant c.self.view_is) in
    strip_within g.B.BitBlock.width c.self.inside.stride c.self.inside.rows c.args.k _ whole (ap length c.as_mut_slice.ensures.value ∙ c.self.invariant.count)
