use Rattle.std.proofs.{Common.{◌≡◌, true, false, arith}, lemmas.List.length_push}
use Rattle.bit_set.specs.Sets.{elements, has, put}
use Rattle.graph_walks.proofs.WalkLemmas.{is_absent, is_present, put_present, taken_again, taken_new}
use Rattle.graph_walks.proofs.walk.take_on.Goals as goal

-- a new number goes onto the stack
pub loop-item-preserved-in-Continue-branch-2 : goal.loop-item-preserved-in-Continue-branch-2
loop-item-preserved-in-Continue-branch-2 g c =
    let mid = elements c.loop-item.reached.values in
    let absent : has mid c.in-Some.item ≡ false = is_absent _ _ c.in_ok-put_new.ensures.returned c.if-branch.true in
    record {
      taken = rw (c.in_ok-put_new.ensures.elements, c.in_ok-push.ensures.items) (taken_new _ _ _ mid _ c.in-Some.item c.loop-item.invariant.taken c.members_of_sets.ensures.put absent);
      edges = omega (arith, length_push c.loop-item.yielded c.in-Some.item);
    }

-- another one was there before
pub loop-item-preserved : goal.loop-item-preserved
loop-item-preserved g c =
    let mid = elements c.loop-item.reached.values in
    let present : has mid c.in-Some.item ≡ true = is_present _ _ c.in_ok-put_new.ensures.returned c.if-branch.false in
    let same : put mid c.in-Some.item ≡ mid =
    put_present mid c.in-Some.item c.members_of_sets.ensures.put c.sets_ascend.ensures.put
    c.sets_are_their_members.ensures.set (c.sets_ascend.ensures.elements c.loop-item.reached.values) present in
    record {
      taken = rw c.in_ok-put_new.ensures.elements (taken_again _ _ _ mid _ c.in-Some.item c.loop-item.invariant.taken c.members_of_sets.ensures.put present same);
      edges = omega (arith, length_push c.loop-item.yielded c.in-Some.item);
    }
