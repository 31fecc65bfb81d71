use Rattle.std.proofs.{Common.arith, lemmas.Bool.not-true}
use Rattle.bit_set.specs.Sets.{elements, has}
use Rattle.free_slots.proofs.SlotLemmas.{lowest_run, no_run_across, no_run_past, table_of}
use Rattle.free_slots.proofs.Slots.lowest_run.Goals as goal

pub returns-then-end-first-clause-lowest : goal.returns-then-end-first-clause-lowest
returns-then-end-first-clause-lowest g c =
    let values = c.self.inside.free.values in
    rw (← c.self.view_is) (lowest_run values c.args.count c.loop-first.from c.in-Some.first c.next_missing-end.result
    (omega (arith, c.if-count-eq0.false)) c.in-Some.ensures.members c.next_missing-end.ensures.members
    c.next_missing-end.ensures.within c.in-Some.ensures.within.0 c.if-end-first.true
    (rw (← c.self.view_is) at c.loop-first.invariant))

pub loop-first-preserved : goal.loop-first-preserved
loop-first-preserved g c =
    let values = c.self.inside.free.values in
    let end = c.next_missing-end.result in
    let past = c.next_missing-end.ensures.members in
    let found = c.in-Some.ensures.members in
    rw (← c.self.view_is) (λ other below is.
    no_run_across (table_of values) c.args.count c.loop-first.from c.in-Some.first end other
    (omega (arith, c.if-count-eq0.false)) (omega (arith, c.if-end-first.false, past.reached)) found.between
    (not-true (has (elements values) end) past.passes) (rw (← c.self.view_is) at c.loop-first.invariant) below is)

pub returns-clause-lowest : goal.returns-clause-lowest
returns-clause-lowest g c =
    let values = c.self.inside.free.values in
    rw (← c.self.view_is) (λ other is.
    no_run_past (table_of values) c.args.count c.loop-first.from other (omega (arith, c.if-count-eq0.false)) c.in_default.ensures.members (rw (← c.self.view_is) at c.loop-first.invariant) is)
