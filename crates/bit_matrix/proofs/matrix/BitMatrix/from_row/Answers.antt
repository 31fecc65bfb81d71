use Rattle.std.proofs.{Common.{◌≡◌, ◌∙◌, [], if◌then◌else◌, nat_lt, inl, inr, length, true, sym, ap, arith}, lemmas.{Bool.{cases_lt, true≢false, Decides.{nat_tests}}}}
use Rattle.bit_set.{specs.Sets.elements, proofs.ValueLemmas.has-past}
use Rattle.bit_matrix.proofs.SetLemmas.{all_rows, row_united}
use Rattle.bit_matrix.proofs.matrix.BitMatrix.from_row.Goals as goal

pub union_row_with-requires-clause-columns : goal.union_row_with-requires-clause-columns
union_row_with-requires-clause-columns g c n is_in = elim (cases_lt n (length c.args.set.now.values)) [
  | inl below ↦ omega (arith, below, c.loop-row.invariant.columns)
  | inr past ↦ absurd (true≢false (sym is_in ∙ has-past c.args.set.now.values n past))
]

pub loop-row-preserved : goal.loop-row-preserved
loop-row-preserved g c =
    let before = c.loop-row.invariant in
    let now = c.union_row_with.ensures.members in
    record {
      each = row_united _ _ c.args.rows c.loop-row.row c.args.set.now.values c.loop-row-test.true before.rows c.union_row_with.ensures.matrix before.each;
      rows = now.rows ∙ before.rows;
      columns = now.columns ∙ before.columns;
    }

pub returns-clause-matrix : goal.returns-clause-matrix
returns-clause-matrix g c =
    let all = c.loop-row.invariant in
    all_rows _ c.args.rows _ (elements c.args.set.now.values) all.rows all.columns
    (λ q inside. all.each q inside ∙ (let yes : nat_lt q c.loop-row.row ≡ true = grind (arith, nat_tests) in
    ap (λ b. if b then elements c.args.set.now.values else []) yes))
