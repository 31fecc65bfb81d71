use Rattle.std.proofs.{Common.{[], ◌∷◌, ◌++◌, ◌<◌, ◌≤◌, length, refl, ap, ◌∙◌, arith}, lemmas.List.Elements.All-pop, iter.Next.Yields-more}
use Rattle.std.{specs.declared.option.Option.TheVariants.Some}
use Rattle.bit_set.{specs.Effects.TakesIn, proofs.{CapacityLemmas.past_fewer_blocks, ChainLemmas.run_to_end, ItemLemmas.{ahead_of_more, bound_of-push, cut_ahead}}}
use Rattle.bit_set.specs.declared.set.changing.TheConstants.{LEAST_GROWN}
use Rattle.bit_set.proofs.set.BitSet.extend.Goals.{After-cut_ahead-2}
use Rattle.bit_set.proofs.set.BitSet.extend.Goals as goal

pub loop-item-preserved : goal.loop-item-preserved
loop-item-preserved g c =
    let put = c.in-Ok.ensures in
    let items = c.loop-item.yielded in
    let item = c.in-Some.item in
    let start = c.len-start.ensures.value ∙ ap (λ bits. length bits.values) c.self.view_is in
    let bound = bound_of-push items item in record {
      len = put.len;
      ahead = ahead_of_more LEAST_GROWN items item c.args.self.now.values c.loop-item.self.values c.put_ahead.new.self.values
          c.loop-item.invariant.ahead put.elements put.within put.longer (λ short. put.exact (omega (arith, short, start))) put.fit;
      capacity = omega (arith, c.loop-item.invariant.capacity, c.put_ahead.ensures.grows.capacity);
      within = λ low.
          let parts = All-pop (λ item. item < c.args.self.now.capacity) (items ++ item ∷ []) items (Some item) refl low in
          let before = c.loop-item.invariant.within parts.0 in
          c.put_ahead.ensures.grows.within (omega (arith, parts.1, before)) ∙ before;
      kept = λ short.
          let before = c.loop-item.invariant.kept (omega (arith, short, bound)) in
          c.put_ahead.ensures.grows.within (omega (arith, short, before, bound)) ∙ before;
    }

-- the list as it is returned before an item that cannot go in
taken_before : (g : _) (c : goal.After-drop-item-iterator g) → TakesIn c.loop-item.yielded c.args.self.now.values c.cut_ahead.new.self.values
taken_before g c =
    let start = c.len-start.ensures.value ∙ ap (λ bits. length bits.values) c.self.view_is in
    let cut = rw c.in-Err.ensures.grows.err at c.cut_ahead.ensures in
    cut_ahead LEAST_GROWN c.loop-item.yielded c.args.self.now.values c.loop-item.self.values c.cut_ahead.new.self.values c.loop-item.invariant.ahead cut.kept.members
    (λ short. ap (λ bits. length bits.values) (cut.few (omega (arith, short, start)))) (λ long. omega (arith, cut.cut (omega (arith, long, start)), start))

pub returns-in-Err-clause-err : goal.returns-in-Err-clause-err
returns-in-Err-clause-err g c =
    let items = c.loop-item.yielded in
    let refused = c.in-Err.ensures in
    let calls = rw c.into_iter-item-iterator.ensures.into_iter_gives at c.loop-item.yielded_by in
    let took = taken_before g c in
    let capacity = c.cut_ahead.ensures.kept.capacity ∙ ap (λ bits. bits.capacity) refused.grows.err in
    let shorter : length c.cut_ahead.new.self.values ≤ length c.loop-item.self.values = omega (arith, took.long, c.loop-item.invariant.ahead.within) in (
      items,
      c.in-Some.item,
      c.next.new.self,
      (c.loop-item.item-iterator, calls, c.in-Some.ensures.steps),
      took,
      omega (arith, shorter, refused.past),
      rw capacity refused.fails,
      past_fewer_blocks c.in-Err.fault g.B.BitBlock.width (length c.cut_ahead.new.self.values) (length c.loop-item.self.values) c.in-Some.item
          g.met.B.BitBlock.width_law.positive shorter refused.past_blocks,
    )

pub returns-in-Err-clause-kept : goal.returns-in-Err-clause-kept
returns-in-Err-clause-kept g c = λ short.
    let capacity = c.cut_ahead.ensures.kept.capacity ∙ ap (λ bits. bits.capacity) c.in-Err.ensures.grows.err in
    let took = taken_before g c in
    capacity ∙ c.loop-item.invariant.kept (omega (arith, short, took.long))

pub returns-in-Err-clause-succeeds : goal.returns-in-Err-clause-succeeds
returns-in-Err-clause-succeeds g c along =
    let items = c.loop-item.yielded in
    let item = c.in-Some.item in
    let next_gives = g.I.Iterator.next_gives in
    let more = Yields-more next_gives c.into_iter-item-iterator.result items c.loop-item.item-iterator item c.next.new.self c.loop-item.yielded_by c.in-Some.ensures.steps in
    let low : item < c.args.self.now.capacity =
    (All-pop (λ n. n < c.args.self.now.capacity) (items ++ item ∷ []) items (Some item) refl
    (along (items ++ item ∷ []) c.next.new.self (rw c.into_iter-item-iterator.ensures.into_iter_gives at more))).1 in
    c.in-Err.ensures.grows.succeeds (omega (arith, low, c.loop-item.invariant.capacity))

-- and at the end of the items
taken : (g : _) (c : After-cut_ahead-2 g) → TakesIn c.loop-item.yielded c.args.self.now.values c.cut_ahead-2.new.self.values
taken g c =
    let start = c.len-start.ensures.value ∙ ap (λ bits. length bits.values) c.self.view_is in
    let cut = c.cut_ahead-2.ensures in
    cut_ahead LEAST_GROWN c.loop-item.yielded c.args.self.now.values c.loop-item.self.values c.cut_ahead-2.new.self.values c.loop-item.invariant.ahead cut.kept.members
    (λ short. ap (λ bits. length bits.values) (cut.few (omega (arith, short, start)))) (λ long. omega (arith, cut.cut (omega (arith, long, start)), start))

pub returns-clause-ok : goal.returns-clause-ok
returns-clause-ok g c =
    let calls = rw c.into_iter-item-iterator.ensures.into_iter_gives at c.loop-item.yielded_by in
    (c.loop-item.yielded, (c.next.new.self, (c.loop-item.item-iterator, calls, c.in-None.ensures.steps)), taken g c)

pub returns-clause-runs : goal.returns-clause-runs
returns-clause-runs g c =
    let calls = rw c.into_iter-item-iterator.ensures.into_iter_gives at c.loop-item.yielded_by in
    run_to_end g.I.Iterator.next_gives _ _ c.loop-item.yielded (c.next.new.self, (c.loop-item.item-iterator, calls, c.in-None.ensures.steps)) (taken g c)

pub returns-clause-kept : goal.returns-clause-kept
returns-clause-kept g c = λ short. let took = taken g c in c.cut_ahead-2.ensures.kept.capacity ∙ c.loop-item.invariant.kept (omega (arith, short, took.long))
