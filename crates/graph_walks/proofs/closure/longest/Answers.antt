use Rattle.std.proofs.Common.{◌≡◌, ◌<◌, length, ap, arith, below_more, ◌∙◌}
use Rattle.bit_set.specs.Bits.{Bits}
use Rattle.graph_walks.{specs.Closed.row, proofs.CloseLemmas.read_row}
use Rattle.graph_walks.proofs.closure.longest.Goals as goal

pub loop-row-preserved : goal.loop-row-preserved
loop-row-preserved g c =
    let rows = c.args.rows.now in
    let i = c.loop-row.row-index in
    let inside : i < length rows = omega arith in
    let long : length c.get_ref.result.now.values ≡ length (row rows i).values = ap (λ (r : Bits). length r.values) (c.get_ref.ensures ∙ c.row-item.is ∙ read_row rows i c.row-item.result inside) in
    let read = c.len.ensures.value in
    let most = c.max-longest.ensures in
    record {
      all = below_more _ _ (λ u lt. let low = c.loop-row.invariant.all u lt in omega (arith, low, most)) (omega (arith, long, read, most));
      least = λ m all. let low = c.loop-row.invariant.least m all in let here = all i inside in omega (arith, low, here, long, read, most);
    }
