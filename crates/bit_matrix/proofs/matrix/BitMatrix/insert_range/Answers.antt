use Rattle.std.{specs.Vec.vec_len, proofs.Common.{◌≡◌, ◌+◌, ◌-◌, ◌*◌, ◌≤◌, ◌∙◌, length, sym, ap, arith}}
use Rattle.bit_blocks.specs.declared.block.merge.Merge.TheVariants.{Union}
use Rattle.bit_set.{specs.{Ranges.{span}, Sets.{union}}, proofs.SetLaws.IsAscending-put_all}
use Rattle.bit_matrix.specs.Matrices.{row_of, with_row}
use Rattle.bit_matrix.proofs.SeenLemmas.{IsPlace, as_long, enough, none_past, place, row_bits_fit, seen_columns, seen_matrix}
use Rattle.bit_matrix.proofs.SpanLemmas.{becomes_spanned, filled_as_merged, filled_members, past_filled, span-none}
use Rattle.bit_matrix.proofs.{SpanLemmas.{span_table, with_row_of}, TableLemmas.changes_row}
use Rattle.bit_matrix.proofs.matrix.BitMatrix.insert_range.Goals.{After-bit_index_of-first, After-self}
use Rattle.bit_matrix.proofs.matrix.BitMatrix.insert_range.Goals as goal

pub returns-then-start-end-clause-matrix : goal.returns-then-start-end-clause-matrix
returns-then-start-end-clause-matrix g c =
    let row = row_of c.args.self.now c.args.row in
    sym (ap (λ s. with_row c.args.self.now c.args.row (union row s)) (span-none c.args.range.start c.args.range.end c.if-start-end.true) ∙ with_row_of c.args.self.now c.args.row)

-- the range ends within the row, of which all is counted
end_within : (g : _) (c : After-self g) → c.args.range.end ≤ c.self.inside.stride * g.B.BitBlock.width
end_within g c =
    let pos = g.met.B.BitBlock.width_law.positive in
    omega (arith, c.requires.columns c.if-start-end.false, enough pos c.self.invariant c.self.view_is, seen_columns pos c.self.invariant c.self.view_is)

at : (g : _) (c : After-self g) → IsPlace g.B.BitBlock.width c.self.inside.stride c.args.row c.args.range.start (length c.self.inside.blocks.items)
at g c =
    place g.met.B.BitBlock.width_law.positive c.self.invariant c.self.view_is c.args.row c.args.range.start c.requires.row
    (omega (arith, c.requires.columns c.if-start-end.false, c.if-start-end.false))

to : (g : _) (c : After-bit_index_of-first g) → c.bit_index_of-first.result + (c.args.range.end - c.args.range.start) ≡ c.args.row * (c.self.inside.stride * g.B.BitBlock.width) + c.args.range.end
to g c = omega (arith, c.bit_index_of-first.ensures, c.if-start-end.false)

pub bit_index_of-first-requires-clause-fits : goal.bit_index_of-first-requires-clause-fits
bit_index_of-first-requires-clause-fits g c = (at g (goal.at.bit_index_of-first-requires-clause-fits g c).After-self).fits

pub bit_index_of-first-requires-clause-within : goal.bit_index_of-first-requires-clause-within
bit_index_of-first-requires-clause-within g c = (at g (goal.at.bit_index_of-first-requires-clause-within g c).After-self).within

pub overflow_add-first : goal.overflow_add-first
overflow_add-first g c =
    let points = goal.at.overflow_add-first g c in
    record { fits = omega (arith, to g points.After-bit_index_of-first, end_within g points.After-self, row_bits_fit g.met.B.BitBlock.width_law.positive c.self.invariant c.self.view_is c.args.row c.requires.row, c.self.invariant.fits) }

pub merge_span-requires-clause-within : goal.merge_span-requires-clause-within
merge_span-requires-clause-within g c =
    let w = g.B.BitBlock.width in
    let points = goal.at.merge_span-requires-clause-within g c in
    let count : vec_len c.self.inside.blocks * w ≡ c.self.inside.rows * c.self.inside.stride * w =
    ap (λ n. n * w) (let e : vec_len c.self.inside.blocks ≡ c.self.inside.rows * c.self.inside.stride = omega (arith, c.self.inside.blocks.ok.0, c.self.invariant.count) in
    e) in
    omega (arith, to g points.After-bit_index_of-first, end_within g points.After-self, row_bits_fit g.met.B.BitBlock.width_law.positive c.self.invariant c.self.view_is c.args.row c.requires.row, count)

pub invariant_of-self : goal.invariant_of-self
invariant_of-self g c =
    let pos = g.met.B.BitBlock.width_law.positive in
    let points = goal.at.invariant_of-self g c in
    span_table pos c.self.invariant c.self.view_is Union c.merge_span.new.blocks.items c.args.row c.args.range.start
    c.args.range.end _ _ c.requires.row c.bit_index_of-first.ensures (to g points.After-bit_index_of-first)
    (omega (arith, c.if-start-end.false)) (end_within g points.After-self) c.merge_span.ensures.span
    (λ d past below. absurd (omega (arith, past, below, c.requires.columns c.if-start-end.false, seen_columns pos c.self.invariant c.self.view_is))) c.merge_span.ensures.in_place.each
    (as_long _ c.self.inside.blocks c.merge_span.new.blocks c.merge_span.ensures.in_place)

pub returns-clause-matrix : goal.returns-clause-matrix
returns-clause-matrix g c =
    let pos = g.met.B.BitBlock.width_law.positive in
    let points = goal.at.returns-clause-matrix g c in
    let row = row_of c.args.self.now c.args.row in
    let matrix = seen_matrix pos c.self.invariant c.self.view_is in
    becomes_spanned pos c.self.invariant c.self.view_is Union c.merge_span.new.blocks.items c.args.row c.args.range.start
    c.args.range.end _ _ c.requires.row c.bit_index_of-first.ensures (to g points.After-bit_index_of-first)
    (omega (arith, c.if-start-end.false)) (end_within g points.After-self) c.merge_span.ensures.span
    _ (IsAscending-put_all row (span c.args.range.start c.args.range.end) (matrix.ascends c.args.row)) (λ d below. filled_as_merged row c.args.range.start c.args.range.end d)
    (λ d past. past_filled row c.args.range.start c.args.range.end d
    (none_past c.args.self.now matrix c.args.row d (omega (arith, past, seen_columns pos c.self.invariant c.self.view_is)))
    (omega (arith, past, c.requires.columns c.if-start-end.false, seen_columns pos c.self.invariant c.self.view_is)))

pub returns-clause-members : goal.returns-clause-members
returns-clause-members g c =
    changes_row c.args.self.now _ c.args.row _ _ c.requires.row (returns-clause-matrix g c) (filled_members (row_of c.args.self.now c.args.row) c.args.range.start c.args.range.end)
