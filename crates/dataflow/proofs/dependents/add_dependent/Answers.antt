use Rattle.std.proofs.Common.{◌≡◌, ℕ, ◌+◌, ◌∷◌, ◌++◌, ◌<◌, [], get_or, length, set, sym, take, ap, ◌∙◌, arith}
use Rattle.std.proofs.lemmas.List.{length-map, length-set, map-set, take_more}
use Rattle.smallvec.specs.SmallVec.{SmallVec}
use Rattle.dataflow.specs.Worklist.{row_at, rows_of}
use Rattle.dataflow.proofs.{DependentLemmas.{adds_on, adds_past, other_rows, row_written}, TakeLemmas.mapped}
use Rattle.dataflow.proofs.dependents.add_dependent.Goals as goal
use Rattle.dataflow.proofs.dependents.add_dependent.Goals.{then-source-rows+in_ok-push, else-source-rows}

pub loop-source-preserved : goal.loop-source-preserved
loop-source-preserved c =
    let sources = c.args.sources.now in
    let b = c.args.number in
    let rows = c.loop-source.rows in
    let i = c.loop-source.source-index in
    let x = get_or sources i 0 in
    let inside : i < length sources = omega arith in
    let longer : take (i + 1) sources ≡ take i sources ++ x ∷ [] = take_more sources i 0 inside in
    let lists = rows_of rows in
    let first = rows_of c.args.rows.now in
    let many = length-map rows (λ (r : SmallVec ℕ). r.items) in
    elim c.if-source-rows.branch [
      | then-source-rows+in_ok-push w ↦
          let row = w.push.new.self in
          let lt : x < length rows = w.if-source-rows.true in
          let read : row_at lists x ≡ w.index-rows-source.result.items = mapped (λ (r : SmallVec ℕ). r.items) rows x w.index-rows-source.result [] lt w.index-rows-source.is in
          let items : row.items ≡ w.index-rows-source.result.items ++ b ∷ [] = rw w.index-rows-source.is w.in_ok-push.ensures.ok in
          let written : rows_of (set rows x row) ≡ set lists x row.items = map-set (λ (r : SmallVec ℕ). r.items) rows x row in
          let now : row_at (set lists x row.items) x ≡ row_at lists x ++ b ∷ [] = row_written lists x row.items (omega (arith, lt, many)) ∙ items ∙ ap (λ l. l ++ b ∷ []) (sym read) in
          rw (longer, w.rows-is, written) (adds_on (take i sources) b x first lists (set lists x row.items) c.loop-source.invariant (length-set lists x row.items) (other_rows lists x row.items) now)
      | else-source-rows w ↦ rw (longer, w.rows-is) (adds_past (take i sources) b x first lists lists c.loop-source.invariant (let past = w.if-source-rows.false in omega (arith, past, many)))
    ]
