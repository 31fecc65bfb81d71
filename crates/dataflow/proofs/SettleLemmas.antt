-- Visits of blocks that wait, one after another.
use Rattle.std.proofs.Common.{◌≡◌, ◌≢◌, ℕ, ◌+◌, ◌-◌, ◌^◌, ◌<◌, ◌≤◌, Bool, true, false, cond, suc, zero, eqb, ◌⊎◌, inl, inr, List, [], ◌∷◌, ◌++◌, length, map, refl, sym, ap, ◌∙◌, ◌↔◌, arith}
use Rattle.std.proofs.lemmas.Bool.{true≢false, cases_eq, eq-eqb, eqb-true, ne_eqb, or_cases, or_left, or_right, Decides.nat_tests}
use Rattle.std.proofs.lemmas.List.{get_or_past, length-map}
use Rattle.bit_set.specs.{Members.{HasNone, Updates, UpdatesRange}, Sets.has}
use Rattle.dataflow.specs.Flow.{Enters, Flow, HasAllDue, Reaches, block_at, made, onward, set_at}
use Rattle.dataflow.{specs.Worklist.{AreOnTheWay, PutsBack, TakesIn, place_of}, proofs.TakeLemmas.{in_push, same_lists}}

-- a block with a source is a block
pub with_source : (blocks : List Flow) (b s : ℕ) → has (block_at blocks b).sources s ≡ true → b < length blocks
with_source blocks b s h =
    let none = λ (past : length blocks ≤ b). ap (λ (f : Flow). has f.sources s) (get_or_past blocks b (record { sources = []; generated = []; killed = [] }) past) in
    grind (arith, none, h)

-- ---- places

-- the block at the place of a block is that block
pub place_back : (count : ℕ) (from_last : Bool) (b p : ℕ) → b < count → p < count → place_of count from_last b ≡ p → b ≡ place_of count from_last p
place_back count true b p lt low is = omega (arith, lt, low, is)
place_back count false b p lt low is = is

-- ---- a set of waiting places without one

module _ (old new : List ℕ) (p : ℕ) (updates : Updates old new p false) where
  pub out : has new p ≡ true → false ≡ true
  out h = let is = updates p in grind (arith, nat_tests, is, h)

  pub still_waits : (q : ℕ) → p ≢ q → has old q ≡ true → has new q ≡ true
  still_waits q other h = let is = updates q in grind (arith, nat_tests, is, other, h)

  pub waited : (q : ℕ) → has new q ≡ true → has old q ≡ true
  waited q h = let is = updates q in grind (arith, nat_tests, is, h)

-- ---- blocks that wait again

module _ (place : ℕ → ℕ) (dependents old mid new : List ℕ) (b : ℕ) (puts : PutsBack dependents place old mid) (updates : Updates mid new (place b) true) where
  waits_now : has new (place b) ≡ true
  waits_now = updates (place b) ∙ ap (λ it. cond it true (has mid (place b))) (eq-eqb (place b) (place b) refl)

  waits_on : (p : ℕ) → has mid p ≡ true → has new p ≡ true
  waits_on p h = let is = updates p in grind (arith, nat_tests, is, h)

  pub puts_on : PutsBack (dependents ++ b ∷ []) place old new
  puts_on = record {
    kept = λ p h. waits_on p (puts.kept p h);
    adds = λ c h. elim (or_cases (has dependents c) (eqb b c) (sym (in_push dependents b c) ∙ h)) [
      | inl before ↦ waits_on (place c) (puts.adds c before)
      | inr is ↦ ap (λ n. has new (place n)) (sym (eqb-true b c is)) ∙ waits_now
    ];
    only = λ p h. elim (cases_eq (place b) p) [
      | inl is ↦ inr (b, in_push dependents b b ∙ or_right (has dependents b) (eqb b b) (eq-eqb b b refl), sym is)
      | inr other ↦ elim (puts.only p (sym (updates p ∙ ap (λ it. cond it true (has mid p)) (ne_eqb (place b) p other)) ∙ h)) [
        | inl was ↦ inl was
        | inr (c, is_in, at) ↦ inr (c, in_push dependents b c ∙ or_left (has dependents c) (eqb b c) is_in, at)
      ]
    ];
  }

-- all places below n wait, once they are put in where none waits
pub all_below_in : (n : ℕ) (old new : List ℕ) → HasNone old → UpdatesRange (λ _. true) old new 0 n → (p : ℕ) → (has new p ≡ true) ↔ (p < n)
all_below_in n old new none updates p =
    let is = updates p in
    let out = none p in
    (λ h. grind (arith, nat_tests, is, out, h), λ lt. grind (arith, nat_tests, is, out, lt))

-- ---- the first sets

pub first_way : {X : Type 0} (f : X → Flow) (blocks : List X) (sets : List (List ℕ))
    → sets ≡ map (λ x. (f x).generated) blocks → ((b : ℕ) → length (set_at sets b) < 2 ^ 64) → AreOnTheWay (map f blocks) sets
first_way f blocks sets is few = record {
  long = ap length is ∙ length-map blocks (λ x. (f x).generated) ∙ sym (length-map blocks f);
  few = few;
  sound = λ b v h. made (ap (λ s. has s v) (sym (at b)) ∙ h);
  generated = λ b v h. ap (λ s. has s v) (at b) ∙ h;
}
  where
    at_map : {X : Type 0} (f : X → Flow) (blocks : List X) (b : ℕ) → set_at (map (λ x. (f x).generated) blocks) b ≡ (block_at (map f blocks) b).generated
    at_map f [] b = refl
    at_map f (x ∷ xs) zero = refl
    at_map f (x ∷ xs) (suc b) = at_map f xs b

    at : (b : ℕ) → set_at sets b ≡ (block_at (map f blocks) b).generated
    at b = ap (λ l. set_at l b) is ∙ at_map f blocks b

-- ---- the visits

-- What enters a block and is not killed is in its set, or the block waits.
abbrev pub IsSettled : List Flow → (ℕ → ℕ) → List (List ℕ) → List ℕ → Type 0
IsSettled blocks place sets waiting = (b s v : ℕ) → has (block_at blocks b).sources s ≡ true → has (set_at sets s) v ≡ true → has (block_at blocks b).killed v ≡ false
    → (has (set_at sets b) v ≡ true) ⊎ (has waiting (place b) ≡ true)

-- at first each block waits
pub all_wait : (blocks : List Flow) (place : ℕ → ℕ) (sets : List (List ℕ)) (waiting : List ℕ) → ((b : ℕ) → b < length blocks → has waiting (place b) ≡ true) → IsSettled blocks place sets waiting
all_wait blocks place sets waiting each b s v source has_it passes = inr (each b (with_source blocks b s source))

-- at the end none does
pub none_waits : (blocks : List Flow) (place : ℕ → ℕ) (sets : List (List ℕ)) (waiting : List ℕ)
    → IsSettled blocks place sets waiting → HasNone waiting
    → ((b v : ℕ) → has (block_at blocks b).generated v ≡ true → has (set_at sets b) v ≡ true) → HasAllDue blocks sets
none_waits blocks place sets waiting settled none generated b v (inl is) = generated b v is
none_waits blocks place sets waiting settled none generated b v (inr (enters, passes)) =
    let waits = settled b enters.0 v enters.1 enters.2 passes in grind (arith, waits, none (place b))

module _ (blocks : List Flow) (place : ℕ → ℕ) (number p : ℕ) (old new : List (List ℕ)) (takes : TakesIn (block_at blocks number) number old new) where
  has_still : (b v : ℕ) → has (set_at old b) v ≡ true → has (set_at new b) v ≡ true
  has_still b v h = let kept = takes.kept v in let others = takes.others b in grind (arith, nat_tests, kept, others, h)

  pub on_the_way : AreOnTheWay blocks old → ((b : ℕ) → length (set_at new b) < 2 ^ 64) → AreOnTheWay blocks new
  on_the_way way few = record {
    long = takes.long ∙ way.long;
    few = few;
    sound = λ b v h. elim (cases_eq b number) [
      | inl is ↦ reaches_one b v is (takes.only v (ap (λ n. has (set_at new n) v) (sym is) ∙ h))
      | inr other ↦ way.sound b v (ap (λ s. has s v) (sym (takes.others b other)) ∙ h)
    ];
    generated = λ b v h. has_still b v (way.generated b v h);
  }
    where
      reaches_one : (b v : ℕ) → b ≡ number → (has (set_at old number) v ≡ true) ⊎ (Enters (block_at blocks number) old v × (has (block_at blocks number).killed v ≡ false)) → Reaches blocks v b
      reaches_one b v is (inl before) = way.sound b v (ap (λ n. has (set_at old n) v) is ∙ before)
      reaches_one b v is (inr (enters, passes)) = rw is (onward enters.1 passes (way.sound enters.0 v enters.2))

  module _ (was waiting : List ℕ) (settled : IsSettled blocks place old was)
      (only : (b : ℕ) → b < length blocks → p ≡ place b → b ≡ number)
      (kept : (q : ℕ) → p ≢ q → has was q ≡ true → has waiting q ≡ true) where
    from_old : (b s v : ℕ) → has (block_at blocks b).sources s ≡ true → has (set_at old s) v ≡ true
        → has (block_at blocks b).killed v ≡ false → (has (set_at new b) v ≡ true) ⊎ (has waiting (place b) ≡ true)
    from_old b s v source before passes = elim (cases_eq b number) [
      | inl is ↦ inl (ap (λ n. has (set_at new n) v) is
          ∙ takes.takes v (s, ap (λ n. has (block_at blocks n).sources s) (sym is) ∙ source, before)
          (ap (λ n. has (block_at blocks n).killed v) (sym is) ∙ passes))
      | inr other ↦ elim (settled b s v source before passes) [
        | inl is ↦ inl (has_still b v is)
        | inr waits ↦ inr (kept (place b) (λ same. other (only b (with_source blocks b s source) same)) waits)
      ]
    ]

    -- a set grew, and the blocks that it flows into wait
    pub settled_on : ((b : ℕ) → has (block_at blocks b).sources number ≡ true → has waiting (place b) ≡ true) → IsSettled blocks place new waiting
    settled_on back b s v source after passes = elim (cases_eq s number) [
      | inl is ↦ inr (back b (ap (λ n. has (block_at blocks b).sources n) (sym is) ∙ source))
      | inr other ↦ from_old b s v source (ap (λ s. has s v) (sym (takes.others s other)) ∙ after) passes
    ]

    -- no set grew
    pub settled_as_before : new ≡ old → IsSettled blocks place new waiting
    settled_as_before same b s v source after passes = from_old b s v source (ap (λ sets. has (set_at sets s) v) (sym same) ∙ after) passes

-- ---- the end comes

-- how many more values the sets can take in, of 2 ^ 64 each
abbrev pub lacking : List (List ℕ) → ℕ
lacking [] = 0
lacking (x ∷ xs) = (2 ^ 64 - length x) + lacking xs

pub lacks_less : (old new : List (List ℕ)) (number : ℕ) → length new ≡ length old → number < length old
    → ((c : ℕ) → c ≢ number → set_at new c ≡ set_at old c) → length (set_at old number) < length (set_at new number)
    → length (set_at old number) < 2 ^ 64 → lacking new < lacking old
lacks_less [] new number long inside others grew few = absurd (omega (arith, inside))
lacks_less (x ∷ xs) [] number long inside others grew few = absurd (omega (arith, long))
lacks_less (x ∷ xs) (y ∷ ys) zero long inside others grew few =
    let rest : ys ≡ xs = same_lists xs ys (omega (arith, long)) (λ c. others (suc c) (λ is. omega (arith, is))) in
    let same : lacking ys ≡ lacking xs = ap lacking rest in
    omega (arith, same, grew, few)
lacks_less (x ∷ xs) (y ∷ ys) (suc n) long inside others grew few =
    let head : y ≡ x = others 0 (λ is. omega (arith, is)) in
    let as_long : length y ≡ length x = ap length head in
    let tail = lacks_less xs ys n (omega (arith, long)) (omega (arith, inside)) (λ c ne. others (suc c) (λ is. ne (omega (arith, is)))) grew few in
    omega (arith, as_long, tail)

pub nearer : (blocks : List Flow) (block : Flow) (number : ℕ) (old new : List (List ℕ)) → AreOnTheWay blocks old
    → TakesIn block number old new → number < length blocks → length (set_at old number) < length (set_at new number)
    → lacking new < lacking old
nearer blocks block number old new way takes inside grew = lacks_less old new number takes.long (let long = way.long in omega (arith, long, inside)) takes.others grew (way.few number)

pub one_less : (after before : ℕ) (was_in : Bool) → after + (cond was_in 1 0) ≡ before → was_in ≡ true → after + 1 ≡ before
one_less after before was_in h is = grind (arith, h, is)

-- ---- one visit

pub few_after : (old new : List (List ℕ)) (number limit : ℕ) → ((c : ℕ) → c ≢ number → set_at new c ≡ set_at old c)
    → ((b : ℕ) → length (set_at old b) < limit) → length (set_at new number) < limit → (b : ℕ) → length (set_at new b) < limit
few_after old new number limit others few low b = let other = others b in let before = few b in grind (arith, nat_tests, other, before, low)

module _ (blocks : List Flow) (count : ℕ) (from_last : Bool) (number p : ℕ) (old new : List (List ℕ)) (was rest : List ℕ)
    (long : length blocks ≡ count) (low : p < count) (is : number ≡ place_of count from_last p)
    (takes : TakesIn (block_at blocks number) number old new) (updates : Updates was rest p false)
    (settled : IsSettled blocks (place_of count from_last) old was) where
  only : (b : ℕ) → b < length blocks → p ≡ place_of count from_last b → b ≡ number
  only b lt same = place_back count from_last b p (omega (arith, lt, long)) low (sym same) ∙ sym is

  pub visited_grown : (waiting : List ℕ) → ((q : ℕ) → has rest q ≡ true → has waiting q ≡ true)
      → ((b : ℕ) → has (block_at blocks b).sources number ≡ true → has waiting (place_of count from_last b) ≡ true)
      → IsSettled blocks (place_of count from_last) new waiting
  visited_grown waiting kept back = settled_on blocks (place_of count from_last) number p old new takes was waiting settled only (λ q other h. kept q (still_waits was rest p updates q other h)) back

  pub visited_same : new ≡ old → IsSettled blocks (place_of count from_last) new rest
  visited_same same = settled_as_before blocks (place_of count from_last) number p old new takes was rest settled only (still_waits was rest p updates) same
