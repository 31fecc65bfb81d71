use Rattle.std.{specs.Vec.vec_len, proofs.Common.{◌≡◌, ◌+◌, ◌*◌, refl, sym, ap, arith}}
use Rattle.bit_blocks.specs.declared.block.merge.Merge.TheVariants.{Difference}
use Rattle.bit_matrix.{specs.Matrices.has_at, proofs.matrix.BitMatrix.clear_row.Goals.After-bits}
use Rattle.bit_matrix.proofs.{SeenLemmas.{as_long, enough, row_bits_fit, seen_columns, seen_matrix}, SpanLemmas.{becomes_spanned, cleared_as_merged, empty_row, span_table}, TableLemmas.changes_row}
use Rattle.bit_matrix.proofs.matrix.BitMatrix.clear_row.Goals as goal

pub returns-then-self-eq0-clause-matrix : goal.returns-then-self-eq0-clause-matrix
returns-then-self-eq0-clause-matrix g c =
    let pos = g.met.B.BitBlock.width_law.positive in
    let none = ap (λ n. n * g.B.BitBlock.width) c.if-self-eq0.true in
    sym (empty_row c.args.self.now (seen_matrix pos c.self.invariant c.self.view_is)
    (omega (arith, none, enough pos c.self.invariant c.self.view_is, seen_columns pos c.self.invariant c.self.view_is))
    c.args.row)

pub returns-then-self-eq0-clause-members : goal.returns-then-self-eq0-clause-members
returns-then-self-eq0-clause-members g c = changes_row c.args.self.now _ c.args.row _ _ c.requires (returns-then-self-eq0-clause-matrix g c) (λ d. refl)

pub bit_index_of-first-requires-clause-fits : goal.bit_index_of-first-requires-clause-fits
bit_index_of-first-requires-clause-fits g c =
    let bits = row_bits_fit g.met.B.BitBlock.width_law.positive c.self.invariant c.self.view_is c.args.row c.requires in omega (arith, bits, c.self.invariant.fits)

pub bit_index_of-first-requires-clause-within : goal.bit_index_of-first-requires-clause-within
bit_index_of-first-requires-clause-within g c =
    let bits = row_bits_fit g.met.B.BitBlock.width_law.positive c.self.invariant c.self.view_is c.args.row c.requires in omega (arith, bits, c.self.invariant.fits)

-- the last bit of the row
to : (g : _) (c : After-bits g)
    → c.bit_index_of-first.result + c.self.inside.stride * c.bits.result ≡ c.args.row * (c.self.inside.stride * g.B.BitBlock.width) + c.self.inside.stride * g.B.BitBlock.width
to g c = let row = ap (λ n. c.self.inside.stride * n) c.bits.ensures in omega (arith, c.bit_index_of-first.ensures, row)

pub overflow_mul-self-inside : goal.overflow_mul-self-inside
overflow_mul-self-inside g c =
    let bits = row_bits_fit g.met.B.BitBlock.width_law.positive c.self.invariant c.self.view_is c.args.row c.requires in
    let row = ap (λ n. c.self.inside.stride * n) c.bits.ensures in
    record { fits = omega (arith, row, bits, c.self.invariant.fits) }

pub overflow_add-first : goal.overflow_add-first
overflow_add-first g c =
    let bits = row_bits_fit g.met.B.BitBlock.width_law.positive c.self.invariant c.self.view_is c.args.row c.requires in
    record { fits = omega (arith, to g (goal.at.overflow_add-first g c).After-bits, bits, c.self.invariant.fits) }

pub merge_span-requires-clause-within : goal.merge_span-requires-clause-within
merge_span-requires-clause-within g c =
    let w = g.B.BitBlock.width in
    let bits = row_bits_fit g.met.B.BitBlock.width_law.positive c.self.invariant c.self.view_is c.args.row c.requires in
    let count : vec_len c.self.inside.blocks * w ≡ c.self.inside.rows * c.self.inside.stride * w =
    ap (λ n. n * w) (let e : vec_len c.self.inside.blocks ≡ c.self.inside.rows * c.self.inside.stride = omega (arith, c.self.inside.blocks.ok.0, c.self.invariant.count) in
    e) in
    omega (arith, to g (goal.at.merge_span-requires-clause-within g c).After-bits, bits, count)

pub invariant_of-self : goal.invariant_of-self
invariant_of-self g c =
    span_table g.met.B.BitBlock.width_law.positive c.self.invariant c.self.view_is Difference c.merge_span.new.blocks.items
    c.args.row 0 (c.self.inside.stride * g.B.BitBlock.width) _ _ c.requires c.bit_index_of-first.ensures
    (to g (goal.at.invariant_of-self g c).After-bits) (omega arith) (omega arith) c.merge_span.ensures.span
    (λ d past below. refl) c.merge_span.ensures.in_place.each (as_long _ c.self.inside.blocks c.merge_span.new.blocks c.merge_span.ensures.in_place)

pub returns-clause-matrix : goal.returns-clause-matrix
returns-clause-matrix g c =
    let w = g.B.BitBlock.width in
    let pos = g.met.B.BitBlock.width_law.positive in
    becomes_spanned pos c.self.invariant c.self.view_is Difference c.merge_span.new.blocks.items c.args.row 0
    (c.self.inside.stride * w) _ _ c.requires c.bit_index_of-first.ensures
    (to g (goal.at.returns-clause-matrix g c).After-bits) (omega arith) (omega arith) c.merge_span.ensures.span
    _ tt (λ d below. cleared_as_merged (has_at c.args.self.now c.args.row d) 0 (c.self.inside.stride * w) d refl (omega (arith, below, enough pos c.self.invariant c.self.view_is))) (λ d past. refl)

pub returns-clause-members : goal.returns-clause-members
returns-clause-members g c = changes_row c.args.self.now _ c.args.row _ _ c.requires (returns-clause-matrix g c) (λ d. refl)
