use Rattle.std.proofs.Common.{◌≡◌, ℕ, ◌+◌, ◌-◌, ◌*◌, ◌/◌, ◌∙◌, ◌∷◌, ap, arith, length, nat_le, set, subst, sym, true}
use Rattle.std.proofs.lemmas.{Bool.Decides.nat_tests, Grind.common_steps}
use Rattle.bit_matrix.specs.Matrices.{row_of}
use Rattle.bit_set.{proofs.SetLemmas.{AscendsFrom-filter, AscendsFrom-lower, has-below, has-filter, has-first}, specs.Sets.{IsAscending, has, those_from}}
use Rattle.bit_set_c.{proofs.RowBlocks.{ArePut, all_put, next_put, none_put}, specs.Block.width}
use Rattle.bit_set_c.proofs.matrix.copies.put_columns.Goals as goal

pub overflow_mul-from : goal.overflow_mul-from
overflow_mul-from c = omega (arith, c.requires.inside, c.if-prove.false, c.columns.ensures.value)

pub loop-column-init : goal.loop-column-init
loop-column-init c =
    let row = row_of c.args.matrix.now c.args.row in
    let first = c.args.from * width in
    let left : c.into_iter-column-iterator.result ≡ those_from row first = c.into_iter-column-iterator.ensures.into_iter_gives ∙ c.iter_from-column-items.ensures.left in
    let member = λ (n : ℕ). ap (λ s. has s n) left ∙ has-filter (λ y. nat_le first y) row n in
    record {
      can_next = tt;
      finite = tt;
      room = c.fill.ensures.len;
      ascends = subst IsAscending (sym left) (AscendsFrom-filter 0 (λ y. nat_le first y) row (c.columns.ensures.matrix.ascends c.args.row));
      low = λ n is. (let at = member n in grind (arith, nat_tests, at, is));
      of_row = λ n is. (let at = member n in grind (arith, nat_tests, at, is));
      columns = none_put row _ c.args.from _ (length c.args.blocks.now) left (c.fill.ensures.after (λ y e. e)) (sym c.fill.ensures.len);
    }

pub overflow_sub-k : goal.overflow_sub-k
overflow_sub-k c =
    let column = c.in-Some.column in
    let low = c.loop-column.invariant.low column (ap (λ s. has s column) c.in-Some.ensures.steps.item ∙ has-first column c.next.new.self) in
    omega (arith, low)

pub returns-then-k-blocks-clause-members : goal.returns-then-k-blocks-clause-members
returns-then-k-blocks-clause-members c = λ k j inside within.
    let column = c.in-Some.column in
    let rest = c.next.new.self in
    let up : IsAscending (column ∷ rest) = subst IsAscending c.in-Some.ensures.steps.item c.loop-column.invariant.ascends in
    all_put (row_of c.args.matrix.now c.args.row) c.loop-column.column-iterator c.args.from c.loop-column.blocks c.loop-column.invariant.columns
    (λ k j inside within.
    ap (λ s. has s ((c.args.from + k) * width + j)) c.in-Some.ensures.steps.item
    ∙ has-below column (column ∷ rest) ((c.args.from + k) * width + j) (omega arith, up.1) (omega (arith, c.if-k-blocks.true, inside, within)))
    k j (omega (arith, inside, c.loop-column.invariant.room)) within

pub loop-column-preserved : goal.loop-column-preserved
loop-column-preserved c =
    let column = c.in-Some.column in
    let rest = c.next.new.self in
    let row = row_of c.args.matrix.now c.args.row in
    let steps = c.in-Some.ensures.steps.item in
    let before = c.loop-column.invariant in
    let up : IsAscending (column ∷ rest) = subst IsAscending steps before.ascends in
    let is_left = ap (λ s. has s column) steps ∙ has-first column rest in
    let stays : (n : ℕ) → has rest n ≡ true → has c.loop-column.column-iterator n ≡ true = λ n is. ap (λ s. has s n) steps ∙ grind (arith, nat_tests, is) in
    let blocks = c.loop-column.blocks in
    let long : length (set blocks (column / width - c.args.from) c.with_bit.result) ≡ length blocks = grind (arith, common_steps) in
    record {
      can_next = tt;
      finite = tt;
      room = long ∙ before.room;
      ascends = AscendsFrom-lower (column + 1) 0 rest (omega arith) up.1;
      low = λ n is. before.low n (stays n is);
      of_row = λ n is. before.of_row n (stays n is);
      columns = next_put row rest c.args.from column blocks c.with_bit.result up (before.of_row column is_left) (before.low column is_left) c.if-k-blocks.false
          c.with_bit.ensures.same c.with_bit.ensures.others (subst (λ l. ArePut row l c.args.from blocks) steps before.columns) long;
    }
