-- What whole walks give, by one step after another, how often they pull, and which blocks they pass.
use Rattle.std.proofs.Common.{◌≡◌, ℕ, ◌+◌, ◌-◌, ◌*◌, ◌/◌, ◌<◌, ◌≤◌, max, Bool, List, [], ◌∷◌, length, length-append, min, Option, Some, None, refl, sym, ap, ◌∙◌, arith, ◌==◌, ◌&&◌, true, false}
use Rattle.std.proofs.Common.{nat_lt, if◌then◌else◌, map, div-add-mod', ap₂, subst, ◌++◌, take, cond, ◌||◌, drop}
use Rattle.std.proofs.{Math.{Bool.{or-false, and-false}, Nat.{mod-lt, lt_of_mul-lt-mul_left}, Seq.{drop-append_seam, take-append_seam}}, lemmas.{Nat.le-div, Bool.{ne_eqb, cond_both, ltb-true}}}
use Rattle.std.{proofs.lemmas.{Bool.Decides.nat_tests, List.append-nil}, specs.Iterator.{Yields, YieldsFirst, YieldsThen, Drains}}
use Rattle.bit_blocks.specs.{Bits.blocks_for, declared.block.merge.Merge.Merge}
use Rattle.set_algebra.specs.Sets.{IsAscending, has, elements, put_all, merge_of_sets, AscendsFrom}
use Rattle.bit_set.specs.{Agreement.WalksAgree, Walk.{AdvancesByEach, IsWalkedOut, IsWalkedOutByEach, IsAtStart}}
use Rattle.bit_set.specs.Walk.{Walk, TwoSetWalk, Advances, AdvancesBack, CallsEnd, GivesFromEnds, in_order, PullsBlocks, PullsBlocksBack, PullsEachBlock, IsAtFirstBlock, IsAtFirstBlocks}
use Rattle.set_algebra.proofs.{SetLemmas.{same_members, IsAscending-elements}, SetLaws.{has-put_all, IsAscending-put_all, put_all-items}}
use Rattle.bit_set.{specs.Walk.{StartsOverTwo, WalksOverTwo, blocks_past}, proofs.SparseLemmas.whole_index}
use Rattle.set_algebra.proofs.AlgebraLemmas.{IsAscending-merge_of_sets}

-- ---- calls of any kind

-- what each call keeps
kept : {S : Type 0} (steps : S → Option ℕ → S → Type 0) (P : S → Type 0) → ((s t : S) (x : ℕ) → steps s (Some x) t → P s → P t) → (s t : S) (items : List ℕ) → Yields steps s items t → P s → P t
kept steps P each s t [] run holds = subst P run holds
kept steps P each s t (x ∷ xs) run holds = kept steps P each run.0 t xs run.2 (each s run.0 x run.1 holds)

-- each call gives the first of what is left
module _ {S : Type 0} (left : S → List ℕ) (steps : S → Option ℕ → S → Type 0) (first : (s t : S) (r : Option ℕ) → steps s r t → YieldsFirst left s r t) where
  -- the items of some calls are the front of what was left
  front : (s t : S) (items : List ℕ) → Yields steps s items t → left s ≡ items ++ left t
  front s t [] run = ap left run
  front s t (x ∷ xs) run = first s run.0 (Some x) run.1 ∙ ap (λ ys. x ∷ ys) (front run.0 t xs run.2)

  pub all_left : (s t : S) (items : List ℕ) → YieldsThen steps s items None t → (items ≡ left s) × (left t ≡ [])
  all_left s t items run = let last = first run.0 t None run.2 in (sym (front s run.0 items run.1 ∙ ap (λ ys. items ++ ys) last.0 ∙ append-nil items), last.1)

  pub none_after : (s t : S) (r : Option ℕ) → left s ≡ [] → steps s r t → (r ≡ None) × (left t ≡ [])
  none_after s t r ended step = let item = first s t r step in grind arith

  pub collected : (merge : Merge) (a b c : List Bool) (s : S) (items : List ℕ) → left s ≡ merge_of_sets merge (elements a) (elements b)
      → Drains steps s items → elements c ≡ put_all [] items → elements c ≡ merge_of_sets merge (elements a) (elements b)
  collected merge a b c s items over run puts =
      puts
      ∙ ap (put_all []) ((all_left s run.0 items run.1).0 ∙ over)
      ∙ put_all-items (merge_of_sets merge (elements a) (elements b)) (IsAscending-merge_of_sets merge (elements a) (elements b) (IsAscending-elements a))

-- each call goes along the blocks
module _ {S : Type 0} (w : ℕ) (index blocks : S → ℕ) (steps : S → Option ℕ → S → Type 0) (each : (s t : S) (r : Option ℕ) → steps s r t → index t + w * blocks t ≡ index s + w * blocks s) where
  -- after an item the block in hand is the one that has it
  in_hand_of : ((s t : S) (x : ℕ) → steps s (Some x) t → (index t ≤ x) × (x < index t + w)) → (past : ℕ) (s t : S) (items : List ℕ) (x : ℕ)
      → 0 < w → index s ≡ 0 → blocks s ≡ past → YieldsThen steps s items (Some x) t → blocks t ≡ past - x / w
  in_hand_of has_item past s t items x pos start ahead run =
      let at = has_item run.0 t x run.2 in
      let along = kept steps (λ u. index u + w * blocks u ≡ index s + w * blocks s) (λ u v y step is. each u v (Some y) step ∙ is) s run.0 items run.1 refl in
      let whole : index t + w * blocks t ≡ w * past = each run.0 t (Some x) run.2 ∙ along ∙ omega (arith, start, ap (λ k. w * k) ahead) in
      let most : x / w + blocks t < past + 1 = lt_of_mul-lt-mul_left w (omega (arith, whole, at, div-add-mod' x w)) in
      let least : past < x / w + blocks t + 1 = lt_of_mul-lt-mul_left w (omega (arith, whole, at, div-add-mod' x w, mod-lt x pos)) in
      omega (arith, most, least)

-- ---- walks over one set

module _ (w : ℕ) where
  pub walked_out : (s t : Walk) (items : List ℕ) → YieldsThen (Advances w) s items None t → IsWalkedOut s items t
  unfolding PullsBlocks
  walked_out s t items run =
      let all = all_left (λ u. u.left) (Advances w) (λ u v r step. step.item) s t items run in
      let passed = kept (Advances w) (λ u. u.pulls + u.blocks ≤ s.pulls + s.blocks) (λ u v x step le. omega (arith, step.pulls.pulled, le)) s run.0 items run.1 (omega arith) in
      record { all = all.0; ended = all.1; pulled = let last = run.2.pulls.pulled in omega (arith, last, passed) }

  pub walked_whole : (values : List Bool) (s t : Walk) (items : List ℕ) → IsAtStart w values s
      → YieldsThen (Advances w) s items None t → (items ≡ elements values) × (t.pulls ≤ max 1 (blocks_for w (length values)) + 1)
  unfolding IsAtFirstBlock
  walked_whole values s t items start run =
      let out = walked_out s t items run in
      (out.all ∙ start.left, omega (arith, out.pulled, start.at.pulls, start.at.blocks))

  pub none_for_good : (s t : Walk) (r : Option ℕ) → s.left ≡ [] → Advances w s r t → (r ≡ None) × (t.left ≡ [])
  none_for_good = none_after (λ u. u.left) (Advances w) (λ u v r step. step.item)

  pub counted : (s : Walk) (items : List ℕ) → Drains (Advances w) s items → length items ≡ length s.left
  counted s items run = ap length (walked_out s run.0 items run.1).all

  pub in_hand : 0 < w → (values : List Bool) (s t : Walk) (items : List ℕ) (x : ℕ) → IsAtStart w values s
      → YieldsThen (Advances w) s items (Some x) t → t.blocks ≡ blocks_for w (length values) - 1 - x / w
  unfolding PullsBlocks IsAtFirstBlock
  in_hand pos values s t items x start run =
      in_hand_of w (λ u. u.index) (λ u. u.blocks) (Advances w) (λ u v r step. step.pulls.along)
      (λ u v y step. step.pulls.at) (blocks_for w (length values) - 1) s t items x pos start.at.index start.at.blocks run

  pub full_walk : (a : List Bool) (s t : Walk) (items : List ℕ) → IsAtStart w a s → YieldsThen (Advances w) s items None t → t.pulls ≤ blocks_for w (length a) + 2
  full_walk a s t items start run = let whole = (walked_whole a s t items start run).1 in omega arith

-- ---- walks over two sets

module _ {S : Type 0} (w : ℕ) (walk : S → TwoSetWalk) (next : S → Option ℕ → S → Type 0) (pos : 0 < w) (each : (s t : S) (r : Option ℕ) → next s r t → AdvancesByEach w (walk s) r (walk t)) where
  pub out : (s t : S) (items : List ℕ) → YieldsThen next s items None t → IsWalkedOutByEach (walk s) items (walk t)
  unfolding PullsEachBlock
  out s t items run =
      let all = all_left (λ u. (walk u).left) next (λ u v r step. (each u v r step).item) s t items run in
      let passed = kept next (λ u. (walk u).pulls + (walk u).blocks ≡ (walk s).pulls + (walk s).blocks) (λ u v x step is. (each u v (Some x) step).pulls.pulled ∙ is) s run.0 items run.1 refl in
      record { all = all.0; ended = all.1; pulled = let last = (each run.0 t None run.2).pulls.pulled in omega (arith, last, passed) }

  pub over_two : (merge : Merge) → WalksOverTwo w merge walk next
  unfolding PullsEachBlock IsAtFirstBlocks
  over_two merge = record {
    rest = out;
    whole = λ a b s t items left start run. let ended = out s t items run in (ended.all ∙ left, omega (arith, ended.pulled, start.at.pulls, start.at.blocks));
    in_hand = λ a b s t items x start run.
        in_hand_of w (λ u. (walk u).index) (λ u. (walk u).blocks) next (λ u v r step. (each u v r step).pulls.along)
        (λ u v y step. (each u v (Some y) step).pulls.at) (max (blocks_for w (length a)) (blocks_for w (length b)) - 1) s t items x pos start.at.index start.at.blocks run;
    for_good = λ s t r. none_after (λ u. (walk u).left) next (λ u v q step. (each u v q step).item) s t r;
    count = λ s items run. ap length (out s run.0 items run.1).all;
  }

  pub full_walk_by_each : (a b : List Bool) (s t : S) (items : List ℕ) → StartsOverTwo w a b (walk s)
      → YieldsThen next s items None t → (walk t).pulls ≤ max (blocks_for w (length a)) (blocks_for w (length b)) + 2
  unfolding IsAtFirstBlocks
  full_walk_by_each a b s t items start run = let ended = out s t items run in omega (arith, ended.pulled, start.at.pulls, start.at.blocks)

-- ---- walks over two block types

module _ {S T : Type 0} (left : S → List ℕ) (next : S → Option ℕ → S → Type 0) (left_too : T → List ℕ) (next_too : T → Option ℕ → T → Type 0)
    (first : (s u : S) (r : Option ℕ) → next s r u → YieldsFirst left s r u) (first_too : (t v : T) (r : Option ℕ) → next_too t r v → YieldsFirst left_too t r v) where
  step_agrees : (s u : S) (t v : T) (r q : Option ℕ) → left s ≡ left_too t → next s r u → next_too t q v → (r ≡ q) × (left u ≡ left_too v)
  step_agrees s u t v r q same run other = let one = first s u r run in let two = first_too t v q other in grind arith

  -- fronts that are as long are the same
  steps_agree : (s u : S) (t v : T) (xs ys : List ℕ) → left s ≡ left_too t → length xs ≡ length ys → Yields next s xs u → Yields next_too t ys v → (xs ≡ ys) × (left u ≡ left_too v)
  steps_agree s u t v xs ys same long run other =
      let both : xs ++ left u ≡ ys ++ left_too v = sym (front left next first s u xs run) ∙ same ∙ front left_too next_too first_too t v ys other in (
        sym (take-append_seam xs (left u)) ∙ ap₂ take long both ∙ take-append_seam ys (left_too v),
        sym (drop-append_seam xs (left u)) ∙ ap₂ drop long both ∙ drop-append_seam ys (left_too v),
      )

  pub walks-agree : WalksAgree left next left_too next_too
  walks-agree = record {
    step = step_agrees;
    steps = steps_agree;
    rest = λ s u t v xs ys same run other. (all_left left next first s u xs run).0 ∙ same ∙ sym (all_left left_too next_too first_too t v ys other).0;
  }

-- ---- the blocks past a block

pub AscendsFrom-blocks_past : (w k : ℕ) (xs : List ℕ) → AscendsFrom (k + 1) (blocks_past w k xs)
AscendsFrom-blocks_past w k [] = tt
AscendsFrom-blocks_past w k (x ∷ xs) =
    cond_both (nat_lt k (x / w)) _ _ (AscendsFrom (k + 1)) (λ further. (omega (arith, ltb-true k (x / w) further), AscendsFrom-blocks_past w (x / w) xs)) (λ _. AscendsFrom-blocks_past w k xs)

-- no number is in a block before the first
none_before : (w low : ℕ) (xs : List ℕ) (q : ℕ) → 0 < w → AscendsFrom low xs → q < low / w → has (map (λ n. n / w) xs) q ≡ false
none_before w low [] q pos up before = refl
none_before w low (x ∷ xs) q pos up before =
    let first : low / w ≤ x / w = le-div (low / w) x w pos (omega (arith, div-add-mod' low w, up.0)) in
    let next : x / w ≤ (x + 1) / w = le-div (x / w) (x + 1) w pos (omega (arith, div-add-mod' x w)) in
    rw (ne_eqb (x / w) q (λ e. omega (arith, e, first, before))) (none_before w (x + 1) xs q pos up.1 (omega (arith, first, next, before)))

past_step : (k q b : ℕ) (others next same : Bool) → next ≡ (nat_lt b q && others) → same ≡ (nat_lt k q && others) → (q < b → others ≡ false)
    → cond (nat_lt k b) ((b == q) || next) same ≡ (nat_lt k q && ((b == q) || others))
past_step k q b others next same next_is same_is none = grind (arith, nat_tests)

-- a function goes into a choice
at_cond : {A B : Type 0} (f : A → B) (b : Bool) (x y : A) → f (cond b x y) ≡ cond b (f x) (f y)
at_cond f b x y = grind arith

-- they are those past it that a number is in
pub has-blocks_past : (w k low : ℕ) (xs : List ℕ) (q : ℕ) → 0 < w → AscendsFrom low xs → has (blocks_past w k xs) q ≡ (nat_lt k q && has (map (λ n. n / w) xs) q)
has-blocks_past w k low [] q pos up = sym (and-false (nat_lt k q))
has-blocks_past w k low (x ∷ xs) q pos up =
    let next : x / w ≤ (x + 1) / w = le-div (x / w) (x + 1) w pos (omega (arith, div-add-mod' x w)) in
    at_cond (λ ys. has ys q) (nat_lt k (x / w)) (x / w ∷ blocks_past w (x / w) xs) (blocks_past w k xs)
    ∙ past_step k q (x / w) _ _ _ (has-blocks_past w (x / w) (x + 1) xs q pos up.1)
    (has-blocks_past w k (x + 1) xs q pos up.1) (λ before. none_before w (x + 1) xs q pos up.1 (omega (arith, next, before)))

-- they are as many as the blocks that a walk over the numbers goes on to
length-blocks_past : (w k x : ℕ) (xs : List ℕ) → k ≤ x / w → length (blocks_past w k (x ∷ xs)) ≡ (if k == x / w then 0 else 1) + length (blocks_past w (x / w) xs)
length-blocks_past w k x xs onward = grind (arith, nat_tests)

-- ---- how often whole walks pull

-- each block that is not 0 is pulled once, and once more the end
pub pulled_sparsely : (w : ℕ) (s t : Walk) (items : List ℕ) → YieldsThen (Advances w) s items None t → t.pulls ≡ s.pulls + s.nonzero_left + 1
unfolding PullsBlocks
pulled_sparsely w s t items run =
    let passed = kept (Advances w) (λ u. u.pulls + u.nonzero_left ≡ s.pulls + s.nonzero_left) (λ u v x step is. step.pulls.nonzero ∙ is) s run.0 items run.1 refl in
    omega (arith, run.2.pulls.sparse, run.2.pulls.nonzero, passed)

at_most_one : (b : Bool) (n : ℕ) → (if b then 0 else min 1 n) ≤ (if b then 0 else 1)
at_most_one b n = grind arith

-- no more than the blocks past the one in hand that an element lies in
pub pulled_at_most : (w : ℕ) (s t : Walk) (items : List ℕ) → 0 < w → YieldsThen (Advances w) s items None t → t.pulls ≤ s.pulls + length (blocks_past w (s.index / w) s.left) + 1
unfolding PullsBlocks
pulled_at_most w s t [] pos run = omega (arith, run.2.pulls.sparse, ap (λ walk. walk.pulls) run.1)
pulled_at_most w s t (x ∷ xs) pos run =
    let mid = run.1.0 in
    let found = run.1.1.pulls.sparse in
    let block : mid.index / w ≡ x / w = ap (λ n. n / w) found.index ∙ whole_index w (x / w) pos in
    rw run.1.1.item (omega (
      arith,
      rw block at (pulled_at_most w mid t xs pos (run.0, run.1.2, run.2)),
      found.pulls,
      at_most_one (s.index / w == x / w) s.nonzero_left,
      length-blocks_past w (s.index / w) x mid.left found.onward,
    ))

pub pulled_whole : (w : ℕ) (values : List Bool) (s t : Walk) (items : List ℕ) → IsAtStart w values s → YieldsThen (Advances w) s items None t → t.pulls ≡ length (blocks_past w 0 (elements values)) + 2
unfolding IsAtFirstBlock
pulled_whole w values s t items start run = omega (arith, pulled_sparsely w s t items run, start.at.pulls, start.at.nonzero)

-- ---- walks from both ends

-- what is left after some calls, and what they pulled
from_ends : (w : ℕ) (s t : Walk) (calls : List (Bool × ℕ)) → GivesFromEnds w s calls t → t.left ≡ [] → (s.left ≡ in_order calls) × (t.pulls + t.nonzero_left ≡ s.pulls + s.nonzero_left)
unfolding PullsBlocks PullsBlocksBack
from_ends w s t [] run none = (ap (λ walk. walk.left) run ∙ none, sym (ap (λ walk. walk.pulls + walk.nonzero_left) run))
from_ends w s t ((true, x) ∷ calls) run none =
    let rest = from_ends w run.0 t calls run.2 none in
    (run.1.item ∙ ap (λ xs. x ∷ xs) rest.0, rest.1 ∙ run.1.pulls.nonzero)
from_ends w s t ((false, x) ∷ calls) run none =
    let rest = from_ends w run.0 t calls run.2 none in
    (run.1.item ∙ ap (λ xs. xs ++ x ∷ []) rest.0, rest.1 ∙ run.1.pulls.pulled)

pub both_ends : (w : ℕ) (s t u : Walk) (calls : List (Bool × ℕ)) (front : Bool) → GivesFromEnds w s calls t
    → CallsEnd w front t None u → (s.left ≡ in_order calls) × (u.left ≡ []) × (u.pulls ≡ s.pulls + s.nonzero_left + 1)
unfolding PullsBlocks PullsBlocksBack
both_ends w s t u calls true run end = let all = from_ends w s t calls run end.item.0 in (all.0, end.item.1, omega (arith, all.1, end.pulls.sparse, end.pulls.nonzero))
both_ends w s t u calls false run end = let all = from_ends w s t calls run end.item.0 in (all.0, end.item.1, omega (arith, all.1, end.pulls.pulled))

pub both_ends_whole : (w : ℕ) (values : List Bool) (s t u : Walk) (calls : List (Bool × ℕ)) (front : Bool) → IsAtStart w values s
    → GivesFromEnds w s calls t → CallsEnd w front t None u → (in_order calls ≡ elements values) × (u.pulls ≡ length (blocks_past w 0 (elements values)) + 2)
unfolding IsAtFirstBlock
both_ends_whole w values s t u calls front start run end =
    let all = both_ends w s t u calls front run end in
    (sym all.0 ∙ start.left, omega (arith, all.2, start.at.pulls, start.at.nonzero))

pub none_back_for_good : (w : ℕ) (s t : Walk) (r : Option ℕ) → s.left ≡ [] → AdvancesBack w s r t → (r ≡ None) × (t.left ≡ [])
none_back_for_good w s t None ended step = (refl, step.item.1)
none_back_for_good w s t (Some x) ended step = let long = ap length (sym ended ∙ step.item) ∙ length-append t.left (x ∷ []) in absurd (omega (arith, long))

-- the summary's blocks are pulled once each, and once more at the end
pub summary_pulled : (w : ℕ) (s t : Walk) (items : List ℕ) → YieldsThen (Advances w) s items None t → t.summary_pulls ≡ s.summary_pulls + s.summary_left + 1
unfolding PullsBlocks
summary_pulled w s t items run =
    let passed = kept (Advances w) (λ u. u.summary_pulls + u.summary_left ≡ s.summary_pulls + s.summary_left) (λ u v x step is. step.pulls.summary ∙ is) s run.0 items run.1 refl in
    omega (arith, run.2.pulls.summary.0, passed)
