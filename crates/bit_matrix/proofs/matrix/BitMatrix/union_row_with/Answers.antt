use Rattle.std.proofs.{Common.{◌≡◌, ◌*◌, ◌↔◌, false, drop, length, map, ap, arith}, lemmas.List.{take_at}}
use Rattle.bit_blocks.specs.declared.block.merge.Merge.TheVariants.{Union}
use Rattle.bit_set.{specs.Sets.elements, proofs.AlgebraLemmas.has-union}
use Rattle.bit_matrix.specs.{Matrices.{row_of}, Merges.{IsMergedPart}, Tables.{matrix_in}}
use Rattle.bit_matrix.proofs.{MergeLemmas.tells_change, SeenLemmas.{row_within, reported_by_blocks, with_same_row}}
use Rattle.bit_matrix.proofs.{SetLemmas.{becomes_united, set_table, stays_at_all}, TableLemmas.{changes_row}}
use Rattle.bit_matrix.proofs.matrix.BitMatrix.union_row_with.Goals.{After-merge_others}
use Rattle.bit_matrix.proofs.matrix.BitMatrix.union_row_with.Goals as goal

pub overflow_mul-row : goal.overflow_mul-row
overflow_mul-row g c = record { fits = omega (arith, row_within g.met.B.BitBlock.width_law.positive c.self.invariant c.self.view_is c.args.row c.requires.row) }

pub merge_others-requires-clause-in_write : goal.merge_others-requires-clause-in_write
merge_others-requires-clause-in_write g c =
    let within = row_within g.met.B.BitBlock.width_law.positive c.self.invariant c.self.view_is c.args.row c.requires.row in
    let long = ap length c.as_mut_slice.ensures.value in omega (arith, within, long, c.min.ensures, c.split_at.ensures.front_len)

long : (g : _) (c : After-merge_others g) → length c.merge_others.new.blocks ≡ c.self.inside.blocks.len
long g c = omega (arith, c.merge_others.ensures.len, c.as_mut_slice.ensures.len)

merged : (g : _) (c : After-merge_others g) → IsMergedPart Union g.B.BitBlock.width 0 (c.args.row * c.self.inside.stride)
    (length c.split_at.result.0.now) (map g.B.BitBlock.number c.self.inside.blocks.items)
    (map g.B.BitBlock.number c.split_at.result.0.now) (map g.B.BitBlock.number c.merge_others.new.blocks)
merged g c = rw c.as_mut_slice.ensures.value at c.merge_others.ensures.merged

told : (g : _) (c : After-merge_others g) → (c.merge_others.result ≡ false)
    ↔ (row_of (matrix_in g.B.BitBlock.width c.self.inside.stride c.self.inside.rows c.self.inside.columns
    (map g.B.BitBlock.number c.merge_others.new.blocks)) c.args.row ≡ row_of c.args.self.now c.args.row)
told g c =
    let pos = g.met.B.BitBlock.width_law.positive in
    let table = set_table pos c.self.invariant c.self.view_is c.merge_others.new.blocks c.storage-blocks.result.now
    c.split_at.result.0.now c.args.set.now.values c.min.result c.args.row c.requires.row
    (rw c.get_ref.ensures at c.storage-blocks.ensures.numbers) c.min.ensures c.split_at.ensures.front
    c.split_at.ensures.front_len c.requires.columns (merged g c) c.merge_others.ensures.each
    (omega (arith, c.merge_others.ensures.len, c.as_mut_slice.ensures.len)) in
    reported_by_blocks pos c.self.invariant c.self.view_is c.merge_others.new.blocks c.args.row c.requires.row table.clean
    (λ x is. (g.met.B.BitBlock.number_law x is).0) c.merge_others.ensures.each _
    (stays_at_all pos c.self.invariant c.self.view_is c.merge_others.new.blocks c.storage-blocks.result.now
    c.split_at.result.0.now c.args.set.now.values c.min.result c.args.row c.requires.row
    (rw c.get_ref.ensures at c.storage-blocks.ensures.numbers) c.min.ensures c.split_at.ensures.front
    c.split_at.ensures.front_len c.requires.columns (merged g c) _
    (rw c.as_mut_slice.ensures.value at c.merge_others.ensures.unchanged))

pub invariant_of-self : goal.invariant_of-self
invariant_of-self g c =
    let at = (goal.at.invariant_of-self g c).After-merge_others in
    let new = c.merge_others.new.blocks in
    rw (take_at new (drop (length new) c.self.inside.blocks.items) c.self.inside.blocks.len (long g at))
    (set_table g.met.B.BitBlock.width_law.positive c.self.invariant c.self.view_is c.merge_others.new.blocks
    c.storage-blocks.result.now c.split_at.result.0.now c.args.set.now.values c.min.result c.args.row c.requires.row
    (rw c.get_ref.ensures at c.storage-blocks.ensures.numbers) c.min.ensures c.split_at.ensures.front
    c.split_at.ensures.front_len c.requires.columns (merged g at) c.merge_others.ensures.each
    (omega (arith, c.merge_others.ensures.len, c.as_mut_slice.ensures.len)))

pub returns-clause-matrix : goal.returns-clause-matrix
returns-clause-matrix g c =
    let at = (goal.at.returns-clause-matrix g c).After-merge_others in
    let new = c.merge_others.new.blocks in
    rw (take_at new (drop (length new) c.self.inside.blocks.items) c.self.inside.blocks.len (long g at))
    (becomes_united g.met.B.BitBlock.width_law.positive c.self.invariant c.self.view_is c.merge_others.new.blocks
    c.storage-blocks.result.now c.split_at.result.0.now c.args.set.now.values c.min.result c.args.row c.requires.row
    (rw c.get_ref.ensures at c.storage-blocks.ensures.numbers) c.min.ensures c.split_at.ensures.front
    c.split_at.ensures.front_len c.requires.columns (merged g at))

pub returns-clause-members : goal.returns-clause-members
returns-clause-members g c = changes_row c.args.self.now _ c.args.row _ _ c.requires.row (returns-clause-matrix g c) (has-union (row_of c.args.self.now c.args.row) (elements c.args.set.now.values))

pub returns-clause-changed : goal.returns-clause-changed
returns-clause-changed g c =
    let at = (goal.at.returns-clause-changed g c).After-merge_others in
    let new = c.merge_others.new.blocks in
    rw (take_at new (drop (length new) c.self.inside.blocks.items) c.self.inside.blocks.len (long g at)) (tells_change c.merge_others.result (row_of c.args.self.now c.args.row) _ (told g at))

pub returns-clause-unchanged : goal.returns-clause-unchanged
returns-clause-unchanged g c =
    let at = (goal.at.returns-clause-unchanged g c).After-merge_others in
    let new = c.merge_others.new.blocks in
    rw (take_at new (drop (length new) c.self.inside.blocks.items) c.self.inside.blocks.len (long g at))
    (λ none. with_same_row c.args.self.now _ c.args.row _
    (becomes_united g.met.B.BitBlock.width_law.positive c.self.invariant c.self.view_is c.merge_others.new.blocks
    c.storage-blocks.result.now c.split_at.result.0.now c.args.set.now.values c.min.result c.args.row c.requires.row
    (rw c.get_ref.ensures at c.storage-blocks.ensures.numbers) c.min.ensures c.split_at.ensures.front
    c.split_at.ensures.front_len c.requires.columns (merged g at)) c.requires.row ((told g at).0 none))
