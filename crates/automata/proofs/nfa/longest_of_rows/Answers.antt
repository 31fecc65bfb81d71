use Rattle.std.proofs.{Common.{◌≡◌, ◌<◌, [], length, map, get_or, arith, below_more}, lemmas.Grind.common_steps}
use Rattle.bit_set.specs.Bits.{Bits}
use Rattle.std.specs.Global.{Vec}
use Rattle.automata.{specs.Bounds.IsRowWithin, proofs.StepLemmas.mapped}
use Rattle.automata.proofs.nfa.longest_of_rows.Goals as goal

pub loop-row-preserved : goal.loop-row-preserved
loop-row-preserved g c =
    let rows = c.args.rows.now in
    let i = c.loop-row.row-index in
    let inside : i < length rows = omega arith in
    let at : get_or (map (λ (row : Vec Bits). row.items) rows) i [] ≡ c.row-item.result.items = mapped (λ (row : Vec Bits). row.items) rows i c.row-item.result [] inside c.row-item.is in
    let here : IsRowWithin c.longest_of_row.result (get_or (map (λ (row : Vec Bits). row.items) rows) i []) = rw (at, ← c.as_slice.ensures.value) c.longest_of_row.ensures.all in
    let most = c.max-longest.ensures in
    record {
      all = below_more _ _ (λ k lt u. grind (arith, common_steps, c.loop-row.invariant.all k lt u, most)) (λ u. grind (arith, common_steps, here u, most));
      least = λ n all.
          let low = c.loop-row.invariant.least n all in
          let here_low = c.longest_of_row.ensures.least n (rw (c.as_slice.ensures.value, ← at) (all i)) in
          omega (arith, most, low, here_low);
    }
