-- What a caller cites of sets that are made of chains.
use Rattle.std.proofs.Common.{◌≡◌, ℕ, ◌+◌, ◌-◌, ◌*◌, ◌/◌, ◌%◌, ◌<◌, ◌≤◌, ◌++◌, ◌⊎◌, inl, inr, Bool, ◌&&◌, not, nat_le, ltb}
use Rattle.std.proofs.Common.{filter, take, Option, List, [], ◌∷◌, Result, IsTrue, Bor, refl, sym, ap, ◌∙◌, zero, suc}
use Rattle.std.proofs.{Common.{append_assoc, arith, div-add-mod', length, reverse, subst, ◌==◌}, Math.Nat.add-mod_right}
use Rattle.std.proofs.{iter.Yields.nat_range_steps, lemmas.{Bool.{cases_Bool, Decides.nat_tests}, Grind.take_at_read, Nat.mod-mul-add}}
use Rattle.std.proofs.lemmas.{List.{append-nil, reverse-append}, List.Folds.list_any-append, List.Sums.{length-filter, count_by-le-length, sum_by-append}}
use Rattle.std.proofs.lemmas.Iterator.{YieldsList, YieldsList-from_range, YieldsList-from_take, Adapters.fact_from_collect}
use Rattle.std.proofs.lemmas.Iterator.Consumers.{YieldsList-at, YieldsList-from_filter, YieldsList-from_shown}
use Rattle.std.{proofs.lemmas.Result.IfOk-weaker, specs.Prelude.IfOk}
use Rattle.std.specs.{BTreeMap.{BTreeMap, get_by}, Fn.{Mut, CalledAt}, Iterator.{Drains, Adapters.{filter_source, filter_callee, filter_steps, rev_source, rev_steps, take_count, take_source, take_steps}}, List.range_with_len}
use Rattle.bit_blocks.specs.Bits.{Bits}
use Rattle.set_algebra.specs.{Members.IsSameSet, Order.order_of_sets, Ranges.span}
use Rattle.set_algebra.specs.Sets.{AscendsFrom, IsAscending, bound_of, elements, has, put_all, those_below}
use Rattle.bit_set.{specs.Walk.{Walk, Advances, AdvancesBack}, proofs.WalkCalls.gives_from_back}
use Rattle.set_algebra.proofs.AlgebraLemmas.{members_of_merged_sets}
use Rattle.set_algebra.proofs.TestLemmas.{below_all, below_none, filter_all, filter_none, from_all, from_none}
use Rattle.set_algebra.proofs.PlaceLemmas.{all_by_places, any_by_places, at_place, has_place, in_order}
use Rattle.set_algebra.proofs.RangeLemmas.{IsAscending-span, filtered_apart, has-range_with_len, has-span, length-span}
use Rattle.set_algebra.proofs.SetLemmas.{AscendsFrom-filter, IsAscending-elements, has-filter, has-first, same_members}
pub use Rattle.set_algebra.proofs.CallerLemmas.{both_ends, common_either_way, common_none, count_put, count_without, shared, stretch, walk_ascends, without_first, without_last, increasing, ascending, ranked, same_by_members, same_elements, counts, pages, ranges, length-filter-le, take-first, has-reverse, ascends_pushed, length_of_parts, count_complement, few_below, fewer_within, multiples, set_steps, calls, kept_by_tests, steps, rows}

module _ {S V E : Type 0} {steps : S → Option ℕ → S → Type 0} {s : S} {all : List ℕ} where
  -- what is made of a chain by `from_iter` is made of all that the chain gives
  pub made_of_chain : (Q : List ℕ → V → Type 0) (r : Result V E) → IfOk r (λ v. (items : List ℕ) × Drains steps s items × Q items v) → YieldsList steps (λ x. x) s all → IfOk r (λ v. Q all v)
  made_of_chain Q r made gives = fact_from_collect Q r (IfOk-weaker r _ _ (λ v m. (m.0, (m.1.1.0, m.1.1.1, λ _. (m.1.0, m.1.1.2)), m.2)) made) gives

-- a set that `from_iter` makes of a chain has what the chain gives
pub set_of_chain : {S E : Type 0} {steps : S → Option ℕ → S → Type 0} {s : S} {all : List ℕ} (r : Result Bits E)
    → IfOk r (λ set. (items : List ℕ) × Drains steps s items × (elements set.values ≡ put_all [] items) × (length set.values ≡ bound_of items) × IsSameSet (elements set.values) items)
    → YieldsList steps (λ x. x) s all → IfOk r (λ set. IsSameSet (elements set.values) all)
set_of_chain r made gives =
    made_of_chain (λ items set. IsSameSet (elements set.values) items) r (IfOk-weaker r _ _ (λ set m. (m.0, m.1, m.4)) made) gives

-- the numbers of a range that pass a test
has-passing : (test : ℕ → Bool) (a b m : ℕ) → has (filter test (range_with_len a (b - a))) m ≡ (nat_le a m && ltb m b && test m)
has-passing test a b m =
    let kept = has-filter test (range_with_len a (b - a)) m in let range = has-range_with_len a (b - a) m in grind (arith, nat_tests)

-- a set that `from_iter` makes of `(a..b).filter(..)`
pub members-from_filtered_range : {E F : Type 0} {g : Mut F (Bor ℕ × Unit {0}) Bool} {f : F} {a b : ℕ} {s : _} (test : ℕ → Bool) (r : Result Bits E)
    → IfOk r (λ set. (items : List ℕ) × Drains (filter_steps nat_range_steps g) s items
    × (elements set.values ≡ put_all [] items) × (length set.values ≡ bound_of items) × IsSameSet (elements set.values) items)
    → filter_source s ≡ record { start = a; end = b } → filter_callee s ≡ f → ((x : ℕ) (v : Bool) (q : F) → CalledAt g f x v q → (q ≡ f) × (v ≡ test x))
    → IfOk r (λ set. (m : ℕ) → has (elements set.values) m ≡ (nat_le a m && ltb m b && test m))
members-from_filtered_range {g = g} {a = a} {b = b} {s = s} test r made source callee called =
    let numbers = range_with_len a (b - a) in
    let gives : YieldsList (filter_steps nat_range_steps g) (λ x. x) s (filter test numbers) =
    YieldsList-from_filter g test (YieldsList-at source (YieldsList-from_range a b (b - a) refl refl)) callee called in
    IfOk-weaker r _ _ (λ set same m. same m ∙ has-passing test a b m) (set_of_chain {steps = filter_steps nat_range_steps g} {s = s} r made gives)

-- a set that `from_iter` makes of `(0..n).filter(..)`
pub members-from_filter : {E F : Type 0} {g : Mut F (Bor ℕ × Unit {0}) Bool} {f : F} {n : ℕ} {s : _} (test : ℕ → Bool) (r : Result Bits E)
    → IfOk r (λ set. (items : List ℕ) × Drains (filter_steps nat_range_steps g) s items
    × (elements set.values ≡ put_all [] items) × (length set.values ≡ bound_of items) × IsSameSet (elements set.values) items)
    → filter_source s ≡ record { start = 0; end = n } → filter_callee s ≡ f → ((x : ℕ) (b : Bool) (q : F) → CalledAt g f x b q → (q ≡ f) × (b ≡ test x))
    → IfOk r (λ set. (m : ℕ) → has (elements set.values) m ≡ (ltb m n && test m))
members-from_filter {g = g} test r made source callee called =
    IfOk-weaker r _ _ (λ set members m. members m ∙ grind (arith, nat_tests)) (members-from_filtered_range {g = g} test r made source callee called)

-- what a walk over a set gives
pub gives_left : (w : ℕ) (s : Walk) {xs : List ℕ} → s.left ≡ xs → YieldsList (Advances w) (λ x. x) s xs
gives_left w s same = subst (YieldsList (Advances w) (λ x. x) s) same (YieldsList-from_shown (Advances w) (λ x. x) (λ walk. walk.left) (λ a b h. ap length h.item.0) (λ a x b h. h.item) s)

-- a set that `from_iter` makes of `set.iter().filter(..)`
pub members-from_filtered_walk : {E F : Type 0} {g : Mut F (Bor ℕ × Unit {0}) Bool} {f : F} {s : _}
    {xs : List ℕ} (w : ℕ) (test : ℕ → Bool) (walk : Walk) (r : Result Bits E)
    → IfOk r (λ set. (items : List ℕ) × Drains (filter_steps (Advances w) g) s items
    × (elements set.values ≡ put_all [] items) × (length set.values ≡ bound_of items)
    × IsSameSet (elements set.values) items)
    → filter_source s ≡ walk → walk.left ≡ xs → filter_callee s ≡ f
    → ((x : ℕ) (b : Bool) (q : F) → CalledAt g f x b q → (q ≡ f) × (b ≡ test x))
    → IfOk r (λ set. (m : ℕ) → has (elements set.values) m ≡ (has xs m && test m))
members-from_filtered_walk {g = g} {s = s} {xs = xs} w test walk r made source left callee called =
    let gives : YieldsList (filter_steps (Advances w) g) (λ x. x) s (filter test xs) =
    YieldsList-from_filter g test (YieldsList-at source (gives_left w walk left)) callee called in
    IfOk-weaker r _ _ (λ set same m. let kept = has-filter test xs m in same m ∙ grind (arith, nat_tests))
    (set_of_chain {steps = filter_steps (Advances w) g} {s = s} r made gives)

-- what a map finds under a set it finds under any set of the same members
pub same_key : {V : Type 0} (a b : Bits) (map : BTreeMap Bits V) → IsSameSet (elements a.values) (elements b.values)
    → get_by (λ (t : Bits). order_of_sets (elements b.values) (elements t.values)) map ≡ get_by (λ (t : Bits). order_of_sets (elements a.values) (elements t.values)) map
same_key a b map same =
    ap (λ l. get_by (λ (t : Bits). order_of_sets l (elements t.values)) map) (sym (same_members _ _ (IsAscending-elements a.values) (IsAscending-elements b.values) same))

-- a set that `from_iter` makes of `set.iter().rev()`
pub set_from_back : {E : Type 0} {s : _} {xs : List ℕ} (w : ℕ) (walk : Walk) (r : Result Bits E)
    → IfOk r (λ set. (items : List ℕ) × Drains (rev_steps (AdvancesBack w)) s items × (elements set.values ≡ put_all [] items)
    × (length set.values ≡ bound_of items) × IsSameSet (elements set.values) items)
    → rev_source s ≡ walk → walk.left ≡ xs → IfOk r (λ set. IsSameSet (elements set.values) xs)
set_from_back {s = s} {xs = xs} w walk r made source left =
    IfOk-weaker r _ _ (λ set same m. same m ∙ has-reverse xs m)
    (set_of_chain {steps = rev_steps (AdvancesBack w)} {s = s} r made (gives_from_back w s walk source left))

-- what `set.iter().rev().take(k)` gives: the k greatest, the greatest first
pub gives_greatest : (w k : ℕ) (s : _) (back : _) (walk : Walk) {xs : List ℕ} → take_source s ≡ back → take_count s ≡ k
    → rev_source back ≡ walk → walk.left ≡ xs → YieldsList (take_steps (rev_steps (AdvancesBack w))) (λ x. x) s (take k (reverse xs))
gives_greatest w k s back walk from count source left = YieldsList-from_take k (YieldsList-at from (gives_from_back w back walk source left)) count
