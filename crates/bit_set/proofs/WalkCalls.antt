-- What walks over two sets give, and what `eq`, `max`, `min` and `find` of a walk return.
use Rattle.std.proofs.Common.{◌≡◌, ℕ, List, [], ◌∷◌, Bool, true, false, ◌&&◌, Option, nat_eq, sym, ap, ap₂, ◌∙◌, subst, length, Bor, IsTrue, MatchOption, reverse, arith}
use Rattle.std.proofs.lemmas.{Iterator.{YieldsList, Adapters.option_map_id}, List.reverse-append}
use Rattle.std.proofs.lemmas.Iterator.{Consumers.{YieldsList-from_shown, max_from_yields_List, min_from_yields_List}, Search.find_from_yields_List}
use Rattle.std.specs.{Fn.{Mut, CalledAt}, Option.IfSome, List.AllZip}
use Rattle.std.specs.{Ordering.{max_by_ordering, min_by_ordering, nat_cmp}, Cmp.Lexicographic.pointwise}
use Rattle.std.specs.Iterator.{Adapters.{rev_source, rev_steps}, AlwaysYields, YieldsThen, ComparesItemsByEq, FindsItem, PicksByCmp}
use Rattle.set_algebra.specs.{Choices.{IsGreatest, IsLeast, IsLeastPassing}, Members.HasNone, Order.same_sets, Sets.{IsAscending, has}}
use Rattle.bit_set.specs.Walk.{TwoSetWalk, BoundedWalk, Walk, AdvancesBack, AdvancesByEach, AdvancesWithBound}
use Rattle.set_algebra.proofs.TestLemmas.{finds, greatest_of, least_of}

-- ---- what a walk gives

-- what each of the three walks over two sets that keep no bound gives
pub gives_left_of_two : (w : ℕ) (s : TwoSetWalk) {xs : List ℕ} → s.left ≡ xs → YieldsList (AdvancesByEach w) (λ x. x) s xs
gives_left_of_two w s same = subst (YieldsList (AdvancesByEach w) (λ x. x) s) same
    (YieldsList-from_shown (AdvancesByEach w) (λ x. x) (λ walk. walk.left) (λ a b h. ap length h.item.0) (λ a x b h. h.item) s)

-- what the walk over an intersection gives
pub gives_left_of_both : (w : ℕ) (s : BoundedWalk) {xs : List ℕ} → s.walk.left ≡ xs → YieldsList (AdvancesWithBound w) (λ x. x) s xs
gives_left_of_both w s same = subst (YieldsList (AdvancesWithBound w) (λ x. x) s) same
    (YieldsList-from_shown (AdvancesWithBound w) (λ x. x) (λ it. it.walk.left) (λ a b h. ap length h.walk.item.0) (λ a x b h. h.walk.item) s)

abbrev left_of : Walk → List ℕ
left_of walk = walk.left

-- what `rev` of a walk over one set gives
pub gives_from_back : (w : ℕ) (s : _) (walk : Walk) {xs : List ℕ} → rev_source s ≡ walk → walk.left ≡ xs
    → YieldsList (rev_steps (AdvancesBack w)) (λ x. x) s (reverse xs)
gives_from_back w s walk source same =
    subst (λ left. YieldsList (rev_steps (AdvancesBack w)) (λ x. x) s (reverse left)) (ap left_of source ∙ same)
    (YieldsList-from_shown (rev_steps (AdvancesBack w)) (λ x. x) (λ it. reverse (left_of (rev_source it)))
    (λ a b h. ap (λ left. length (reverse left)) h.item.0)
    (λ a x b h. ap reverse h.item ∙ reverse-append (left_of (rev_source b)) (x ∷ [])) s)

-- ---- `eq` compares lists

-- how the two ended, where `eq` returned r
abbrev Ends : Bool → Option ℕ → Option ℕ → Type 0
Ends r o p = MatchOption o (MatchOption p (r ≡ true) (λ _. r ≡ false)) (λ x. (r ≡ false) × IfSome p (λ y. nat_eq x y ≡ false))

module _ {S T : Type 0} (steps : S → Option ℕ → S → Type 0) (others : T → Option ℕ → T → Type 0) (r : Bool) where
  at_end : (o p : Option ℕ) (xs ys : List ℕ) (s u : S) (t v : T) → AlwaysYields steps (λ x. x) s xs
      → AlwaysYields others (λ x. x) t ys → steps s o u → others t p v → Ends r o p → r ≡ pointwise nat_eq xs ys
  at_end o p [] [] s u t v e f a b end = grind arith
  at_end o p [] (y ∷ ys) s u t v e f a b end = grind arith
  at_end o p (x ∷ xs) [] s u t v e f a b end = grind arith
  at_end o p (x ∷ xs) (y ∷ ys) s u t v e f a b end = grind arith

  along : (cs bs : List ℕ) (o p : Option ℕ) (xs ys : List ℕ) (s u : S) (t v : T) → AlwaysYields steps (λ x. x) s xs → AlwaysYields others (λ x. x) t ys
      → YieldsThen steps s cs o u → YieldsThen others t bs p v → AllZip (λ x y. nat_eq x y ≡ true) cs bs → Ends r o p → r ≡ pointwise nat_eq xs ys
  along [] [] o p xs ys s u t v e f a b tied end = at_end o p xs ys s u t v e f (subst (λ j. steps j o u) (sym a.1) a.2) (subst (λ j. others j p v) (sym b.1) b.2) end
  along [] (y ∷ bs) o p xs ys s u t v e f a b tied end = absurd tied
  along (x ∷ cs) [] o p xs ys s u t v e f a b tied end = absurd tied
  along (x ∷ cs) (y ∷ bs) o p [] ys s u t v e f a b tied end = absurd (e x a.1.0 a.1.1)
  along (x ∷ cs) (y ∷ bs) o p (x' ∷ xs) [] s u t v e f a b tied end = absurd (f y b.1.0 b.1.1)
  along (x ∷ cs) (y ∷ bs) o p (x' ∷ xs) (y' ∷ ys) s u t v e f a b tied end =
      let first = e.1 x a.1.0 a.1.1 in
      let second = f.1 y b.1.0 b.1.1 in
      along cs bs o p xs ys a.1.0 u b.1.0 v first.1 second.1 (a.0, a.1.2, a.2) (b.0, b.1.2, b.2) tied.1 end ∙ ap (λ both. both && pointwise nat_eq xs ys) (sym tied.0 ∙ ap₂ nat_eq first.0 second.0)

-- `eq` of two iterators over numbers, of which `becomes` says what `into_iter` makes of the second
pub eq_from_yields_List : {S T U : Type 0} {steps : S → Option ℕ → S → Type 0} {others : T → Option ℕ → T → Type 0} {s : S} {xs ys : List ℕ} (becomes : U → T → Type 0) (other : U) (r : Bool)
    → ComparesItemsByEq steps becomes others s other nat_eq r → YieldsList steps (λ x. x) s xs → ((it : T) → becomes other it → YieldsList others (λ x. x) it ys) → r ≡ same_sets xs ys
eq_from_yields_List {steps = steps} {others = others} {s = s} {xs = xs} {ys = ys} becomes other r d e f =
    along steps others r d.1 d.2 d.3 d.4 xs ys s d.5 d.0 d.6 e.runs (f d.0 d.7).runs d.8 d.9 d.10 d.11

-- ---- what searches and choices return

-- `max` and `min` of an iterator over numbers
pub greatest_from_max : {S : Type 0} {steps : S → Option ℕ → S → Type 0} {s : S} {xs : List ℕ} (r : Option ℕ)
    → PicksByCmp steps max_by_ordering nat_cmp s r → YieldsList steps (λ x. x) s xs → MatchOption r (HasNone xs) (IsGreatest xs)
greatest_from_max {s = s} {xs = xs} r ran gives =
    rw (sym (option_map_id r) ∙ max_from_yields_List {v = λ x. x} s r ran gives) (greatest_of xs)

pub least_from_min : {S : Type 0} {steps : S → Option ℕ → S → Type 0} {s : S} {xs : List ℕ} (r : Option ℕ)
    → PicksByCmp steps min_by_ordering nat_cmp s r → YieldsList steps (λ x. x) s xs → MatchOption r (HasNone xs) (IsLeast xs)
least_from_min {s = s} {xs = xs} r ran gives =
    rw (sym (option_map_id r) ∙ min_from_yields_List {v = λ x. x} s r ran gives) (least_of xs)

-- `find` of an iterator over numbers that ascend, whose closure computes a test
pub least_from_find : {S F : Type 0} {steps : S → Option ℕ → S → Type 0} {g : Mut F (Bor ℕ × Unit {0}) Bool} {s : S} {xs : List ℕ} (test : ℕ → Bool) (u : S) (f : F) (r : Option ℕ)
    → FindsItem steps g s f r u → YieldsList steps (λ x. x) s xs → ((x : ℕ) (b : Bool) (q : F) → CalledAt g f x b q → (q ≡ f) × (b ≡ test x))
    → IsAscending xs → MatchOption r ((x : ℕ) → IsTrue (has xs x) → test x ≡ false) (IsLeastPassing test xs)
least_from_find {xs = xs} test u f r ran gives computes up =
    rw (sym (option_map_id r) ∙ find_from_yields_List {v = λ x. x} test u f r ran gives computes) (finds test xs up)
