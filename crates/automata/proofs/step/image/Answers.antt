use Rattle.std.proofs.{Common.{◌≡◌, ◌≤◌, [], length, ap, sym, ◌∙◌, arith}, lemmas.Bool.ltb-false}
use Rattle.bit_set.specs.{Bits.Bits, Members.IsUnion, Sets.elements}
use Rattle.automata.specs.{Bounds.set_at, Runs.{row_of_sets, successors}}
use Rattle.automata.proofs.StepLemmas.{gathers_all, gathers_none, gathers_on, nowhere, row_at, row_past}
use Rattle.automata.proofs.step.image.Goals as goal

pub loop-state-init : goal.loop-state-init
loop-state-init g c = record {
  can_next = tt;
  finite = tt;
  gathers = rw c.into_iter-state-iterator.ensures.into_iter_gives.0.left (gathers_none _ _ _ c.make_empty.ensures.members);
  capacity = λ _. ap (λ bits. bits.capacity) c.make_empty.ensures.whole;
}

pub returns-in_err-union_with-in-Some-get-clause-succeeds : goal.returns-in_err-union_with-in-Some-get-clause-succeeds
returns-in_err-union_with-in-Some-get-clause-succeeds g c within =
    let read : c.in-Some-get.successors.now ≡ set_at c.args.row.now c.in-Some.state = c.in-Some-get.ensures.lookup.3.1 (record { values = []; capacity = 0 }) in
    let long : length c.in-Some-get.successors.now.values ≡ length (set_at c.args.row.now c.in-Some.state).values = ap (λ (r : Bits). length r.values) read in
    let short = within c.in-Some.state in
    let same = c.loop-state.invariant.capacity within in
    absurd (omega (arith, long, short, same, c.in_err-union_with-in-Some-get.ensures.grows.grows.full))

pub loop-state-preserved-in-Continue-1 : goal.loop-state-preserved-in-Continue-1
loop-state-preserved-in-Continue-1 g c =
    let row = c.args.row.now in
    let x = c.in-Some.state in
    let read : c.in-Some-get.successors.now ≡ set_at row x = c.in-Some-get.ensures.lookup.3.1 (record { values = []; capacity = 0 }) in
    let same : elements c.in-Some-get.successors.now.values ≡ successors (row_of_sets row) x = ap (λ (r : Bits). elements r.values) read ∙ sym (row_at row x) in
    let members : IsUnion (elements c.loop-state.into.values) (successors (row_of_sets row) x) (elements c.union_with.new.self.values) = rw same at c.in_ok-union_with-in-Some-get.ensures.members in
    let long : length c.in-Some-get.successors.now.values ≡ length (set_at row x).values = ap (λ (r : Bits). length r.values) read in
    record {
      can_next = tt;
      finite = tt;
      gathers = gathers_on (row_of_sets row) _ _ _ _ _ x c.loop-state.invariant.gathers c.in-Some.ensures.steps.first.is_in c.in-Some.ensures.steps.first.others members;
      capacity = λ within.
          let short = within x in
          let before = c.loop-state.invariant.capacity within in
          c.in_ok-union_with-in-Some-get.ensures.grows.grows.within (omega (arith, long, short, before)) ∙ before;
    }

pub loop-state-preserved : goal.loop-state-preserved
loop-state-preserved g c =
    let row = c.args.row.now in
    let x = c.in-Some.state in
    let past : length row ≤ x = ltb-false x (length row) (sym c.in-None-get.ensures.lookup.0) in
    record {
      can_next = tt;
      finite = tt;
      gathers = gathers_on (row_of_sets row) _ _ _ _ _ x c.loop-state.invariant.gathers
          c.in-Some.ensures.steps.first.is_in c.in-Some.ensures.steps.first.others
          (nowhere (row_of_sets row) _ x (row_past row x past));
      capacity = c.loop-state.invariant.capacity;
    }

pub returns-clause-image : goal.returns-clause-image
returns-clause-image g c = gathers_all _ _ _ (rw c.in-None.ensures.steps.item.0 at c.loop-state.invariant.gathers)
