use Rattle.std.proofs.{Common.{◌≡◌, ◌*◌, ◌↔◌, false, drop, length, map, arith}, lemmas.{List.{take_at}}}
use Rattle.bit_matrix.specs.{Matrices.{row_of}, Merges.{IsMergedPart}, Tables.{matrix_in}}
use Rattle.bit_matrix.proofs.{MergeLemmas.tells_change, PartLemmas.{rows_apart}}
use Rattle.bit_matrix.proofs.SeenLemmas.{merged_table, row_within, seen_merged, reported_by_blocks, with_same_row}
use Rattle.bit_matrix.proofs.matrix.BitMatrix.merge_rows.Goals.{After-merge_within}
use Rattle.bit_matrix.proofs.matrix.BitMatrix.merge_rows.Goals as goal

pub overflow_mul-read : goal.overflow_mul-read
overflow_mul-read g c = record { fits = omega (arith, row_within g.met.B.BitBlock.width_law.positive c.self.invariant c.self.view_is c.args.read c.requires.read) }

pub overflow_mul-write : goal.overflow_mul-write
overflow_mul-write g c = record { fits = omega (arith, row_within g.met.B.BitBlock.width_law.positive c.self.invariant c.self.view_is c.args.write c.requires.write) }

pub merge_within-requires-clause-in_read : goal.merge_within-requires-clause-in_read
merge_within-requires-clause-in_read g c = rw c.as_mut_slice.ensures.value (row_within g.met.B.BitBlock.width_law.positive c.self.invariant c.self.view_is c.args.read c.requires.read)

pub merge_within-requires-clause-in_write : goal.merge_within-requires-clause-in_write
merge_within-requires-clause-in_write g c = rw c.as_mut_slice.ensures.value (row_within g.met.B.BitBlock.width_law.positive c.self.invariant c.self.view_is c.args.write c.requires.write)

-- another row is as many blocks away
pub merge_within-requires-clause-apart : goal.merge_within-requires-clause-apart
merge_within-requires-clause-apart g c = rows_apart c.args.read c.args.write c.self.inside.stride

-- how many blocks there are, and what became of them
long : (g : _) (c : After-merge_within g) → length c.merge_within.new.blocks ≡ c.self.inside.blocks.len
long g c = omega (arith, c.merge_within.ensures.len, c.as_mut_slice.ensures.len, c.self.inside.blocks.ok.0)

merged : (g : _) (c : After-merge_within g) → IsMergedPart g.O.Operation.merge g.B.BitBlock.width
    (c.args.read * c.self.inside.stride) (c.args.write * c.self.inside.stride) c.self.inside.stride
    (map g.B.BitBlock.number c.self.inside.blocks.items) (map g.B.BitBlock.number c.self.inside.blocks.items)
    (map g.B.BitBlock.number c.merge_within.new.blocks)
merged g c = rw c.as_mut_slice.ensures.value at c.merge_within.ensures.merged

-- the row stays where no block changed
told : (g : _) (c : After-merge_within g) → (c.merge_within.result ≡ false)
    ↔ (row_of (matrix_in g.B.BitBlock.width c.self.inside.stride c.self.inside.rows c.self.inside.columns
    (map g.B.BitBlock.number c.merge_within.new.blocks)) c.args.write ≡ row_of c.args.self.now c.args.write)
told g c =
    let pos = g.met.B.BitBlock.width_law.positive in
    let clean = (merged_table pos c.self.invariant c.self.view_is g.O.Operation.merge c.merge_within.new.blocks c.args.read
    c.args.write c.requires.read c.requires.write (merged g c) c.merge_within.ensures.each
    (omega (arith, c.merge_within.ensures.len, c.as_mut_slice.ensures.len))).clean in
    reported_by_blocks pos c.self.invariant c.self.view_is c.merge_within.new.blocks c.args.write c.requires.write clean
    (λ x is. (g.met.B.BitBlock.number_law x is).0) c.merge_within.ensures.each _
    (rw c.as_mut_slice.ensures.value at c.merge_within.ensures.unchanged)

pub invariant_of-self : goal.invariant_of-self
invariant_of-self g c =
    let at = (goal.at.invariant_of-self g c).After-merge_within in
    let new = c.merge_within.new.blocks in
    rw (take_at new (drop (length new) c.self.inside.blocks.items) c.self.inside.blocks.len (long g at))
    (merged_table g.met.B.BitBlock.width_law.positive c.self.invariant c.self.view_is g.O.Operation.merge new c.args.read
    c.args.write c.requires.read c.requires.write (merged g at) c.merge_within.ensures.each
    (omega (arith, c.merge_within.ensures.len, c.as_mut_slice.ensures.len)))

pub returns-clause-matrix : goal.returns-clause-matrix
returns-clause-matrix g c =
    let at = (goal.at.returns-clause-matrix g c).After-merge_within in
    let new = c.merge_within.new.blocks in
    rw (take_at new (drop (length new) c.self.inside.blocks.items) c.self.inside.blocks.len (long g at))
    (seen_merged g.met.B.BitBlock.width_law.positive c.self.invariant c.self.view_is g.O.Operation.merge new c.args.read c.args.write c.requires.read c.requires.write (merged g at))

pub returns-clause-changed : goal.returns-clause-changed
returns-clause-changed g c =
    let at = (goal.at.returns-clause-changed g c).After-merge_within in
    let new = c.merge_within.new.blocks in
    rw (take_at new (drop (length new) c.self.inside.blocks.items) c.self.inside.blocks.len (long g at))
    (tells_change c.merge_within.result (row_of c.args.self.now c.args.write) _ (told g at))

pub returns-clause-unchanged : goal.returns-clause-unchanged
returns-clause-unchanged g c =
    let at = (goal.at.returns-clause-unchanged g c).After-merge_within in
    let new = c.merge_within.new.blocks in
    rw (take_at new (drop (length new) c.self.inside.blocks.items) c.self.inside.blocks.len (long g at))
    (λ none. with_same_row c.args.self.now _ c.args.write _
    (seen_merged g.met.B.BitBlock.width_law.positive c.self.invariant c.self.view_is g.O.Operation.merge new c.args.read
    c.args.write c.requires.read c.requires.write (merged g at)) c.requires.write ((told g at).0 none))
