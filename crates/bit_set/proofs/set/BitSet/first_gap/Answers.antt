use Rattle.std.proofs.{Common.{◌+◌, ◌<◌, ◌≤◌, Some, None, arith}, lemmas.Bool.Decides.nat_tests}
use Rattle.set_algebra.specs.Sets.{elements}
use Rattle.set_algebra.proofs.GapLemmas.{finds_gap, first_gap, in_the_way, none_across, none_asked}
use Rattle.bit_set.proofs.set.BitSet.first_gap.Goals as goal

pub returns-then-count-eq0-clause-members : goal.returns-then-count-eq0-clause-members
returns-then-count-eq0-clause-members g c = rw c.if-count-eq0.true (none_asked (elements c.args.self.now.values) c.args.from (omega (arith, c.ranges.from)))

pub returns-then-count-eq0-clause-elements : goal.returns-then-count-eq0-clause-elements
returns-then-count-eq0-clause-elements g c =
    finds_gap (elements c.args.self.now.values) c.args.from c.args.count (Some c.args.from) (returns-then-count-eq0-clause-members g c)

pub loop-element-init : goal.loop-element-init
loop-element-init g c =
    let first = c.next_missing-gap.ensures.members in
    record {
      missing = let is = first.passes in grind arith;
      reached = first.reached;
      none = λ h from before wide.
          let out = wide.free h (omega arith) (omega (arith, c.if-count-eq0.false)) in
          let past = first.between h from before in
          grind arith;
      within = c.next_missing-gap.ensures.within;
    }

pub loop-element-preserved : goal.loop-element-preserved
loop-element-preserved g c =
    let first = c.next_missing-gap-in-Some.ensures.members in
    let found = c.in-Some.ensures.members in
    let before = c.loop-element.invariant in
    let near : c.in-Some.element < c.loop-element.gap + c.args.count = omega (arith, found.reached, c.if-element-gap.false) in
    record {
      missing = let is = first.passes in grind arith;
      reached = omega (arith, before.reached, found.reached, first.reached);
      none = λ h from below wide.
          let earlier = before.none h from in
          let later = λ (past : c.loop-element.gap ≤ h).
          none_across (elements c.args.self.now.values) c.args.count c.loop-element.gap c.in-Some.element c.next_missing-gap-in-Some.result h
          (omega (arith, c.if-count-eq0.false)) past below near found.passes first.between wide in
          grind (arith, nat_tests);
      within = omega (arith, c.next_missing-gap-in-Some.ensures.within, c.in-Some.ensures.within);
    }

pub returns-then-element-gap-clause-members : goal.returns-then-element-gap-clause-members
returns-then-element-gap-clause-members g c =
    let found = c.in-Some.ensures.members in
    let before = c.loop-element.invariant in
    let near = c.if-element-gap.true in
    let within = c.in-Some.ensures.within in
    first_gap (elements c.args.self.now.values) c.args.from c.args.count c.loop-element.gap
    (record {
      free = λ n from below. found.between n from (omega (arith, below, near, found.reached));
      fits = omega (arith, near, within, found.reached);
    }) before.reached before.none

pub returns-then-element-gap-clause-elements : goal.returns-then-element-gap-clause-elements
returns-then-element-gap-clause-elements g c =
    finds_gap (elements c.args.self.now.values) c.args.from c.args.count (Some c.loop-element.gap) (returns-then-element-gap-clause-members g c)

pub returns-then-count-gap-clause-members : goal.returns-then-count-gap-clause-members
returns-then-count-gap-clause-members g c = λ h from fits. in_the_way (elements c.args.self.now.values) c.args.count h fits (λ wide.
    let earlier = c.loop-element.invariant.none h from in
    let over = c.if-count-gap.true in
    grind (arith, nat_tests))

pub returns-then-count-gap-clause-elements : goal.returns-then-count-gap-clause-elements
returns-then-count-gap-clause-elements g c =
    finds_gap (elements c.args.self.now.values) c.args.from c.args.count None (returns-then-count-gap-clause-members g c)

pub returns-clause-members : goal.returns-clause-members
returns-clause-members g c =
    let before = c.loop-element.invariant in
    let fits = c.if-count-gap.false in
    let small = c.loop-element.auto.gap-fits in
    first_gap (elements c.args.self.now.values) c.args.from c.args.count c.loop-element.gap
    (record {
      free = λ n from below. c.in_default.ensures.members n from;
      fits = omega (arith, fits, small);
    }) before.reached before.none

pub returns-clause-elements : goal.returns-clause-elements
returns-clause-elements g c =
    finds_gap (elements c.args.self.now.values) c.args.from c.args.count (Some c.loop-element.gap) (returns-clause-members g c)
