use Rattle.std.proofs.Common.{◌≡◌, ℕ, [], ap, arith, drop, length, map, refl, sym, true≢false, ◌∙◌}
use Rattle.std.proofs.lemmas.List.{length-map}
use Rattle.smallvec.specs.SmallVec.{SmallVec}
use Rattle.dataflow.{specs.{Flow.{block_at}, Worklist.{rows_of}}, proofs.TakeLemmas.{mapped, written_back}}
use Rattle.dataflow.proofs.{DependentLemmas.{more_depend, none_depend}, SettleLemmas.with_source}
use Rattle.dataflow.proofs.dependents.dependents_of.Goals as goal

pub loop-number-init : goal.loop-number-init
loop-number-init g c =
    let empty = c.in_ok-rows.ensures in
    none_depend (map g.N.Block.flow c.args.blocks.now) (rows_of c.in_ok-rows.rows.items)
    (length-map c.in_ok-rows.rows.items (λ (r : SmallVec ℕ). r.items) ∙ empty.long
    ∙ sym (length-map c.args.blocks.now g.N.Block.flow)) empty.empty

pub loop-number-preserved : goal.loop-number-preserved
loop-number-preserved g c =
    let blocks = c.args.blocks.now in
    let number = c.loop-number.number in
    let rows = c.loop-number.rows in
    let new = c.add_dependent.new.rows in
    let at : block_at (map g.N.Block.flow blocks) number ≡ g.N.Block.flow c.index-blocks-number.result =
    mapped g.N.Block.flow blocks number c.index-blocks-number.result
    (record { sources = []; generated = []; killed = [] }) c.loop-number-test.true c.index-blocks-number.is in
    let long = c.add_dependent.auto.rows in
    let len = rows.ok in
    let value = c.as_mut_slice.ensures.len in
    rw (written_back new (drop (length new) rows.items) rows.len (omega (arith, long, len, value)))
    (more_depend (map g.N.Block.flow blocks) number c.sources.result.now (rows_of rows.items)
    (rows_of new) c.loop-number.invariant (rw c.as_mut_slice.ensures.value at c.in_ok-add_dependent.ensures)
    (c.sources.ensures ∙ ap (λ flow. flow.sources) (sym at)))

pub returns-clause-dependents : goal.returns-clause-dependents
returns-clause-dependents g c =
    let flows = map g.N.Block.flow c.args.blocks.now in
    let it = c.loop-number.invariant in
    let done = c.loop-number-test.false in
    let end = c.loop-number.auto.number-end in
    let long = length-map c.args.blocks.now g.N.Block.flow in
    record {
      long = it.long;
      all = λ b s lt h. let inside = with_source flows b s h in it.all b s (omega (arith, inside, done, long)) lt h;
      inside = λ b s h. let low = it.inside b s h in omega (arith, low, end, long);
    }

pub returns-clause-none : goal.returns-clause-none
returns-clause-none g c _ = refl

pub returns-in_err-rows-clause-none : goal.returns-in_err-rows-clause-none
returns-in_err-rows-clause-none g c none = absurd (true≢false (sym (c.in_err-rows.ensures.none none)))

pub returns-in_err-add_dependent-clause-none : goal.returns-in_err-add_dependent-clause-none
returns-in_err-add_dependent-clause-none g c none = absurd (omega (arith, none, c.loop-number-test.true))
