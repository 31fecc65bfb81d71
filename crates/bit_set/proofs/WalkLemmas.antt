-- What a pull and a taken item do to a walk.
use Rattle.std.proofs.Common.{◌≡◌, ℕ, ◌+◌, ◌-◌, ◌*◌, ◌^◌, ◌<◌, ◌≤◌, ◌/◌, Bool, List, [], ◌∷◌, ◌++◌, map, length, All, Option, Some, None, true, false, ◌⊎◌, inl, inr, refl, sym, ap, ◌∙◌}
use Rattle.std.{proofs.Common.{subst, arith}, specs.{Prelude.IfSome, Option.{SomeIff, unwrap_or}}}
use Rattle.std.proofs.{Math.Nat.{mul-suc, mul-le-mul_left, mul-div-le}, lemmas.List.{length-map, Elements.{All-nil, All-head, All-tail, All-same, All-rest}}}
use Rattle.std.specs.Iterator.{UpTo, at_most, YieldsFirst}
use mir.Val.{bool_byte}
use Rattle.bit_blocks.{specs.{Bits.{blocks_of, blocks_for}, Lowest.{IsLowest, IsCleared}}, proofs.BitsLemmas.length-blocks_of}
use Rattle.set_algebra.{specs.Sets.{elements_from, elements}, proofs.SetLemmas.length-elements-le}
use Rattle.bit_set.specs.{Walk.{GoesOn, TwoSetWalk}, Indexes.{digits_from, values_in, indexes, Ahead, PullsBlock, PullsBlockIf, IsWalkable, CanWalk, IsWalk}}
use Rattle.bit_set.proofs.IndexLemmas.{indexes-zero, indexes-next, indexes-lowest, length-digits_from, length-values_in, length-indexes-le, elements-blocks_of}
use Rattle.bit_set.proofs.IndexLemmas.{elements-below}

-- a pull takes one block on
pub pulled_along : (index w m n : ℕ) → n ≡ m + 1 → index + w + w * m ≡ index + w * n
pulled_along index w m n is = let product = ap (λ k. w * k) is in omega (arith, product, mul-suc w m)

-- a block of zeros is passed
pub indexes-pulled : (w index m n : ℕ) (s t : List Bool) → m ≡ 0 → s ≡ digits_from n 0 w ++ t → indexes w index m s ≡ indexes w (index + w) n t
indexes-pulled w index m n s t zero is = ap (λ k. indexes w index k s) zero ∙ indexes-zero w index s ∙ indexes-next w (index + w) n s t is

-- where the last block in hand is used up
pub indexes-ended : (w index m : ℕ) (s : List Bool) → m ≡ 0 → s ≡ [] → indexes w index m s ≡ []
indexes-ended w index m s zero is = ap (λ k. indexes w index k s) zero ∙ indexes-zero w index s ∙ ap (elements_from (index + w)) is

-- the values ahead are those of whole blocks
long_pulled : {X : Type 0} (w : ℕ) (number : X → ℕ) (x : X) (s t : Ahead) → length s.values ≡ s.blocks * w → PullsBlock w number s (Some x) t → length t.values ≡ t.blocks * w
long_pulled w number x s t long pull =
    omega (arith, ap length pull.values ∙ length-digits_from (number x) w t.values, long, ap (λ k. k * w) pull.blocks)

-- a walk that went on, so that the same is left
pub CanWalk-moved : (w index at m n : ℕ) (s t : Ahead) → CanWalk w index m s → length t.values ≡ t.blocks * w → at + w * t.blocks ≡ index + w * s.blocks
    → indexes w at n t.values ≡ indexes w index m s.values → CanWalk w at n t
CanWalk-moved w index at m n s t can long along same = record {
  long = long;
  fits = omega (arith, can.fits, along);
  below = subst (All (λ i. i < 2 ^ 64 - 1)) (sym same) can.below;
  count_fits = subst (λ xs. length xs < 2 ^ 64) (sym same) can.count_fits;
}

pub CanWalk-pulled : {X : Type 0} (w index m : ℕ) (number : X → ℕ) (x : X) (s t : Ahead) → CanWalk w index m s → m ≡ 0 → PullsBlock w number s (Some x) t → CanWalk w (index + w) (number x) t
CanWalk-pulled w index m number x s t can zero pull =
    CanWalk-moved w index _ m _ s t can (long_pulled w number x s t can.long pull)
    (pulled_along index w t.blocks s.blocks pull.blocks) (sym (indexes-pulled w index m (number x) s.values t.values zero pull.values))

-- the lowest one is taken
pub CanWalk-taken : (w index m r i : ℕ) (ahead : Ahead) → CanWalk w index m ahead → IsLowest m i → i < w → IsCleared w m i r → CanWalk w index r ahead × (index + i < 2 ^ 64 - 1)
CanWalk-taken w index m r i ahead can low within cleared =
    let same = indexes-lowest w index m r i ahead.values low within cleared in
    let below = subst (All (λ n. n < 2 ^ 64 - 1)) same can.below in (
      record {
        long = can.long;
        fits = can.fits;
        below = All-tail (λ n. n < 2 ^ 64 - 1) (index + i)
            (indexes w index r ahead.values) below;
        count_fits = omega (arith, can.count_fits, ap length same);
      },
      All-head (λ n. n < 2 ^ 64 - 1) (index + i) (indexes w index r ahead.values) below,
    )

-- no more items than digits
pub left-most : (w index m : ℕ) (ahead : Ahead) → CanWalk w index m ahead → length (indexes w index m ahead.values) ≤ (1 + ahead.blocks) * w
left-most w index m ahead can = omega (arith, length-indexes-le w index m ahead.values, can.long)

-- ---- a step that may be left out

-- what contracts see of a walk over two sets that has block m in hand
abbrev pub seen_of_two : ℕ → ℕ → ℕ → Ahead → TwoSetWalk
seen_of_two w index m ahead = record { left = indexes w index m ahead.values; pulls = ahead.pulls; index = index; blocks = ahead.blocks }

-- where the block in hand is used up, a walk that went on goes on to x
pub GoesOn-pulled : {X : Type 0} (w index m : ℕ) (number : X → ℕ) (x : X) (f : TwoSetWalk) (s t : Ahead) → GoesOn w f (seen_of_two w index m s) → m ≡ 0
    → PullsBlock w number s (Some x) t → GoesOn w f (seen_of_two w (index + w) (number x) t)
GoesOn-pulled w index m number x f s t went zero pull = record {
  left = sym (indexes-pulled w index m (number x) s.values t.values zero pull.values) ∙ went.left;
  goes_on = omega (arith, went.goes_on, pull.counted);
  pulled = omega (arith, went.pulled, pull.counted, pull.blocks);
  along = pulled_along index w t.blocks s.blocks pull.blocks ∙ went.along;
}

-- or it is not, and the walk stays
pub went_on : {X : Type 0} (is_block : X → Type 0) (w index at : ℕ) (number : X → ℕ) (old new x : X) (wanted : Bool) (s t : Ahead) → IsWalk (is_block old) w index (number old) s → is_block x
    → (wanted ≡ true → number old ≡ 0) → PullsBlockIf w number wanted s (Some x) t → ((wanted ≡ true) × (new ≡ x)) ⊎ ((wanted ≡ false) × (new ≡ old)) → at ≡ index + bool_byte wanted * w
    → IsWalk (is_block new) w at (number new) t × GoesOn w (seen_of_two w index (number old) s) (seen_of_two w at (number new) t)
went_on is_block w index at number old new x wanted s t walk lawful zero pull which there = by_which which
  where
    stayed : GoesOn w (seen_of_two w index (number old) s) (seen_of_two w index (number old) s)
    stayed = record { left = refl; goes_on = omega arith; pulled = refl; along = refl }

    by_which : ((wanted ≡ true) × (new ≡ x)) ⊎ ((wanted ≡ false) × (new ≡ old)) → IsWalk (is_block new) w at (number new) t
        × GoesOn w (seen_of_two w index (number old) s) (seen_of_two w at (number new) t)
    by_which (inl used) =
        let next_index : at ≡ index + w = there ∙ ap (λ b. index + bool_byte b * w) used.0 ∙ omega arith in
        let one = pull.pulled used.0 in
        rw (used.1, next_index) (
          record { in_hand = lawful; can = CanWalk-pulled w index (number old) number x s t walk.can (zero used.0) one },
          GoesOn-pulled w index (number old) number x _ s t stayed (zero used.0) one,
        )
    by_which (inr kept) =
        let same_index : at ≡ index = there ∙ ap (λ b. index + bool_byte b * w) kept.0 ∙ omega arith in
        rw (kept.1, same_index, pull.same kept.0) (walk, stayed)

-- ---- the making of a walk

-- With block m in hand and t ahead of it, a walk is at the start of s.
pub record IsBegun (is_block : Type 0) (w m : ℕ) (s t : Ahead) : Type 0 where
  pub walk : IsWalk is_block w 0 m t
  pub all : indexes w 0 m t.values ≡ elements s.values
  pub past : t.blocks ≡ s.blocks - 1

begun_by : (is_block : Type 0) (w m : ℕ) (s t : Ahead) → is_block → IsWalkable w s → indexes w 0 m t.values ≡ elements s.values
    → t.blocks ≡ s.blocks - 1 → length t.values ≡ t.blocks * w → IsBegun is_block w m s t
begun_by is_block w m s t lawful can all past long = record {
  walk = record {
    in_hand = lawful;
    can = record {
      long = long;
      fits = omega (arith, ap (λ k. w * k) past, can.fits);
      below = subst (All (λ n. n < 2 ^ 64 - 1)) (sym all) can.below;
      count_fits = subst (λ xs. length xs < 2 ^ 64) (sym all) can.count_fits;
    };
  };
  all = all;
  past = past;
}

pub begun : {X : Type 0} (is_block : X → Type 0) (w : ℕ) (number : X → ℕ) (zero : X) (s t : Ahead) (r : Option X)
    → IsWalkable w s → PullsBlock w number s r t → IfSome r is_block → is_block zero → number zero ≡ 0
    → IsBegun (is_block (unwrap_or r zero)) w (number (unwrap_or r zero)) s t
begun is_block w number zero s t None can pull given lawful none =
    begun_by _ w _ s t lawful can (indexes-ended w 0 _ _ none pull.values.1 ∙ sym (ap (elements_from 0) pull.values.0))
    (omega (arith, pull.blocks)) (omega (arith, ap length pull.values.1, ap (λ k. k * w) pull.blocks.1))
begun is_block w number zero s t (Some x) can pull given lawful none =
    begun_by (is_block x) w (number x) s t given can (sym (indexes-next w 0 (number x) s.values t.values pull.values)) (omega (arith, pull.blocks)) (long_pulled w number x s t can.long pull)

-- a walk can go over what reads as a list of truth values, in as many blocks
pub IsWalkable-of : (w : ℕ) (ahead : Ahead) (values : List Bool) → length ahead.values ≡ ahead.blocks * w
    → ahead.blocks ≡ blocks_for w (length values) → elements ahead.values ≡ elements values → length values < 2 ^ 64 → IsWalkable w ahead
IsWalkable-of w ahead values long blocks same fits = record {
  long = long;
  fits =
      let past : ahead.blocks - 1 ≤ length values / w = omega (arith, blocks) in
      omega (arith, mul-le-mul_left w past, mul-div-le (length values) w);
  below = subst (All (λ n. n < 2 ^ 64 - 1)) (sym same) (elements-below (2 ^ 64 - 1) values (omega arith));
  count_fits = let most = length-elements-le 0 values in let many = ap length same in omega (arith, most, many);
}

-- ---- the blocks of one list of truth values

module _ {X : Type 0} (w : ℕ) (number : X → ℕ) where
  -- what blocks hold
  abbrev pub values_of_blocks : List X → List Bool
  values_of_blocks xs = values_in w (map number xs)

  pub length-values_of_blocks : (xs : List X) → length (values_of_blocks xs) ≡ length xs * w
  length-values_of_blocks xs = length-values_in w (map number xs) ∙ ap (λ k. k * w) (length-map xs number)

  pub length-blocks : (xs : List X) (values : List Bool) → map number xs ≡ blocks_of w values → length xs ≡ blocks_for w (length values)
  length-blocks xs values is = sym (length-map xs number) ∙ ap length is ∙ length-blocks_of w values

  pub elements-values_of_blocks : (xs : List X) (values : List Bool) → 0 < w → map number xs ≡ blocks_of w values → elements (values_of_blocks xs) ≡ elements values
  elements-values_of_blocks xs values pos is = ap (λ ms. elements (values_in w ms)) is ∙ elements-blocks_of w values pos

  pub IsWalkable-values_of_blocks : (xs : List X) (values : List Bool) (pulls : ℕ) → 0 < w → map number xs ≡ blocks_of w values
      → length values < 2 ^ 64 → IsWalkable w (record { values = values_of_blocks xs; blocks = length xs; pulls = pulls })
  IsWalkable-values_of_blocks xs values pulls pos is fits = IsWalkable-of w _ values (length-values_of_blocks xs) (length-blocks xs values is) (elements-values_of_blocks xs values pos is) fits

-- a pull of lawful blocks gives one, and leaves such
pub All-pulled : {X : Type 0} (P : X → Type 0) (xs ys : List X) (r : Option X) → All P xs → YieldsFirst (λ zs. zs) xs r ys → IfSome r P × All P ys
All-pulled P xs ys None each first = (tt, All-same P ys [] first.1 (All-nil P))
All-pulled P xs ys (Some x) each first = (All-head P x ys (All-same P (x ∷ ys) xs (sym first) each), All-rest P x ys xs first each)

-- what a product bounds, it bounds where it fits
pub within_product : (r : Option ℕ) (P : Type 0) (product m : ℕ) → SomeIff r P product → m ≤ product → IfSome r (UpTo (at_most m))
within_product r P product m is most = grind arith
