use Rattle.std.proofs.Common.{◌≡◌, ℕ, Bool, ap, ◌∙◌, ◌&&◌, ◌||◌, ◌==◌, nat_le, refl, sym, arith}
use Rattle.bit_set.{specs.Sets.has, proofs.SetLemmas.{has-filter, has-first}}
use Rattle.bit_matrix.{specs.Matrices.{has_at, row_of}, proofs.CopyLemmas.{in_row, put_more, rest_inside}}
use Rattle.bit_matrix.proofs.matrix.copies.insert_in_each.Goals as goal

pub loop-column-init : goal.loop-column-init
loop-column-init g c =
    let left : (k : ℕ) → has c.into_iter-column-iterator.result
    k ≡ (nat_le c.args.from k && has_at c.args.matrix.now c.args.row k) = λ k. ap (λ xs. has xs k)
    (c.into_iter-column-iterator.ensures.into_iter_gives ∙ c.iter_from-column-items.ensures.left)
    ∙ has-filter (nat_le c.args.from) (row_of c.args.matrix.now c.args.row) k in
    record {
      bits = λ r k. ap (λ b. has_at c.args.transposed.now k r || (r == c.args.row && b)) (left k);
      inside = λ k is_in. sym (left k) ∙ is_in;
      shape = record { rows = refl; columns = refl };
    }

pub insert-requires-clause-row : goal.insert-requires-clause-row
insert-requires-clause-row g c =
    let column = c.in-Some.column in
    let is_in = c.loop-column.invariant.inside column (ap (λ xs. has xs column) c.in-Some.ensures.steps.item ∙ has-first column c.next.new.self) in
    let below = c.iter_from-column-items.ensures.columns column (in_row (nat_le c.args.from column) _ is_in) in
    omega (arith, below, c.requires.shape.rows, c.loop-column.invariant.shape.rows)

pub loop-column-preserved : goal.loop-column-preserved
loop-column-preserved g c =
    let f : ℕ → Bool = λ k. nat_le c.args.from k && has_at c.args.matrix.now c.args.row k in
    let before = c.loop-column.invariant in
    let now = c.insert.ensures.members in
    record {
      bits = put_more c.args.transposed.now _ _ c.args.row c.in-Some.column f _ c.next.new.self c.in-Some.ensures.steps.item now before.bits;
      inside = rest_inside f c.in-Some.column _ c.next.new.self c.in-Some.ensures.steps.item before.inside;
      shape = record { rows = now.rows ∙ before.shape.rows; columns = now.columns ∙ before.shape.columns };
    }
