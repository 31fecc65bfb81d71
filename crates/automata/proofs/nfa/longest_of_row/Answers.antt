use Rattle.std.proofs.{Common.{◌≡◌, ◌<◌, [], length, ap, ◌∙◌, arith, below_more}, lemmas.List.get_or_default}
use Rattle.bit_set.specs.Bits.{Bits}
use Rattle.automata.specs.Bounds.{set_at}
use Rattle.automata.proofs.nfa.longest_of_row.Goals as goal

pub loop-set-preserved : goal.loop-set-preserved
loop-set-preserved g c =
    let row = c.args.row.now in
    let i = c.loop-set.set-index in
    let inside : i < length row = omega arith in
    let long : length c.get_ref.result.now.values ≡ length (set_at row i).values =
    ap (λ (set : Bits). length set.values) (c.get_ref.ensures ∙ c.set-item.is
    ∙ get_or_default row i c.set-item.result (record { values = []; capacity = 0 }) inside) in
    let read = c.len.ensures.value in
    let most = c.max-longest.ensures in
    record {
      all = below_more _ _ (λ u lt. let low = c.loop-set.invariant.all u lt in omega (arith, low, most)) (omega (arith, long, read, most));
      least = λ n all. let low = c.loop-set.invariant.least n all in let here = all i in omega (arith, low, here, long, read, most);
    }
