-- What a merge that says whether a block changed does, some blocks at a time, which blocks stay, and what that says of the
-- list.
use Rattle.std.proofs.Math.Bool.{or-false}
use Rattle.std.proofs.Common.{◌≡◌, ℕ, ◌+◌, ◌*◌, ◌/◌, ◌%◌, ◌^◌, ◌<◌, ◌≤◌, ◌↔◌, Bool, false, true, not, ◌==◌, ◌&&◌, ◌||◌, List}
use Rattle.std.proofs.Common.{map, length, get_or, set, All, refl, sym, ap, ◌∙◌, arith, ⊎_elim, mod-lt}
use Rattle.std.proofs.Common.{get_or-set_same, get_or-set_other}
use Rattle.std.proofs.lemmas.{Bool.{cases_eq, cases_lt, false≢true, Decides.nat_tests}, List.{get_or_past, length-map}}
use Rattle.std.proofs.lemmas.Nat.Bits.{same_from_bits_below}
use Rattle.std.specs.{Prelude.{MatchOption, Option, None, Some, is_some}, Option.unwrap_or}
use Rattle.bit_blocks.specs.declared.block.merge.Merge.{Merge, TheVariants.Union}
use Rattle.bit_blocks.specs.{Merges.merge_of_values, Digits.is_one}
use Rattle.bit_blocks.specs.BlockMerges.{apart_at, except_at, merge_at, other_at, AreKept, AreOthers, FindsDifference}
use Rattle.bit_blocks.specs.BlockMerges.{HasMerged, Stay}
use Rattle.bit_blocks.specs.Storage.{value_at, values_of, IsZeroFrom, is_used}
use Rattle.bit_blocks.proofs.{CompareLemmas.zero_from_digits, Masks.is_one-zero}
use Rattle.bit_blocks.proofs.MergeLemmas.{merge_of_values-none}
use Rattle.bit_blocks.proofs.StorageLemmas.{get_or-values_of, get_or-values_of_zero_tail, same_digit, length-values_of}
use Rattle.bit_blocks.proofs.StorageLemmas.{value_at-is, value_at-past, values_of-same}
use Rattle.bit_blocks.proofs.{UseLemmas.same_block, VectorLemmas.numbers_below}

-- ---- the other digits

-- of a block that both lists have
pub apart_here : (os es : List ℕ) (k j : ℕ) → k < length es → apart_at os es k j ≡ except_at os es k j
apart_here os es k j within = grind (arith, nat_tests)

-- past the end of the third list
pub except_none : (os es : List ℕ) (k j : ℕ) → length es ≤ k → is_one (get_or os k 0) j ≡ except_at os es k j
except_none os es k j past = grind (arith, get_or_past es k 0 past, is_one-zero)

-- past the end of the second
pub except_past : (os es : List ℕ) (k j : ℕ) → length os ≤ k → false ≡ except_at os es k j
except_past os es k j past = grind (arith, get_or_past os k 0 past, is_one-zero)

-- ---- blocks that are merged some at a time

module _ {X : Type 0} (m : Merge) (w : ℕ) (f : X → ℕ) (P : X → Type 0) where
  pub merged_none : (start end : ℕ) (other : ℕ → ℕ → Bool) (xs : List X) → All P xs → end ≤ start → HasMerged m w f P start end other xs xs
  merged_none start end other xs each le = record {
    digit = λ k j from below index. absurd (omega arith);
    before = λ k h. refl;
    after = λ k h. refl;
    each = each;
    len = refl;
  }

  -- where all of them stay
  pub merged_stay : (start end : ℕ) (other : ℕ → ℕ → Bool) (xs : List X) → All P xs → Stay m w f start end other xs → HasMerged m w f P start end other xs xs
  merged_stay start end other xs each stay = record {
    digit = stay.digit;
    before = λ k first. refl;
    after = λ k past. refl;
    each = each;
    len = refl;
  }

  -- they stay where none changed
  pub kept_stay : (start end : ℕ) (other : ℕ → ℕ → Bool) (xs ys : List X) → HasMerged m w f P start end other xs ys → AreKept (map f xs) (map f ys) → Stay m w f start end other xs
  kept_stay start end other xs ys is kept = record {
    digit = λ k j from below index. ap (λ n. is_one n j) (sym (kept k)) ∙ is.digit k j from below index;
  }

  -- some more of them
  pub merged_more : (a b c p q : ℕ) (other : ℕ → ℕ → Bool) (xs ys zs : List X) → a ≤ b → b ≤ c → p ≡ b → q ≡ c
      → HasMerged m w f P a b other xs ys → HasMerged m w f P p q other ys zs → HasMerged m w f P a c other xs zs
  merged_more a b c p q other xs ys zs le also from to one second =
      let two = rw (from, to) at second in
      record {
        digit = λ k j from below index.
            ⊎_elim
            (λ early. ap (λ n. is_one n j) (two.before k early) ∙ one.digit k j from early index)
            (λ late. two.digit k j late below index ∙ ap (λ n. merge_of_values m (is_one n j) (other k j)) (one.after k late))
            (cases_lt k b);
        before = λ k h. two.before k (omega arith) ∙ one.before k h;
        after = λ k h. two.after k h ∙ one.after k (omega arith);
        each = two.each;
        len = two.len ∙ one.len;
      }

  -- with the same other digits
  pub merged_same : (start end : ℕ) (d e : ℕ → ℕ → Bool) (xs ys : List X)
      → ((k j : ℕ) → start ≤ k → k < end → j < w → d k j ≡ e k j) → HasMerged m w f P start end d xs ys
      → HasMerged m w f P start end e xs ys
  merged_same start end d e xs ys same is = record {
    digit = λ k j from below index. is.digit k j from below index ∙ ap (merge_of_values m (is_one (get_or (map f xs) k 0) j)) (same k j from below index);
    before = is.before;
    after = is.after;
    each = is.each;
    len = is.len;
  }

  -- with the same ends
  pub merged_at : (p q a b : ℕ) (other : ℕ → ℕ → Bool) (xs ys : List X) → p ≡ a → q ≡ b → HasMerged m w f P p q other xs ys → HasMerged m w f P a b other xs ys
  merged_at p q a b other xs ys from to is = rw (sym from, sym to) is

  -- one of them
  pub merged_put : (k a b n : ℕ) (xs ys : List X) → k < length xs → map f ys ≡ set (map f xs) k n → All P ys
      → length ys ≡ length xs → a ≡ get_or (map f xs) k 0
      → ((j : ℕ) → j < w → is_one n j ≡ merge_of_values m (is_one a j) (is_one b j))
      → HasMerged m w f P k (k + 1) (λ q j. is_one b j) xs ys
  merged_put k a b n xs ys within e each len read digits =
      let written : get_or (map f ys) k 0 ≡ n = ap (λ ns. get_or ns k 0) e ∙ get_or-set_same (map f xs) k n 0 (rw length-map within) in
      let others : (q : ℕ) → (q ≡ k → ⊥) → get_or (map f ys) q 0 ≡ get_or (map f xs) q 0 = λ q there. ap (λ ns. get_or ns q 0) e ∙ get_or-set_other (map f xs) k q n 0 there in
      record {
        digit = λ q j from below index.
            let here : q ≡ k = omega arith in
            ap (λ p. is_one (get_or (map f ys) p 0) j) here
            ∙ ap (λ x. is_one x j) written
            ∙ digits j index
            ∙ ap (λ x. merge_of_values m (is_one x j) (is_one b j)) (read ∙ ap (λ p. get_or (map f xs) p 0) (sym here));
        before = λ q h. others q (omega arith);
        after = λ q h. others q (omega arith);
        each = each;
        len = len;
      }

  -- past the end of the others, a merge with them is one with none
  pub merged_past_others : (start end : ℕ) (other : ℕ → ℕ → Bool) (xs ys : List X)
      → ((k j : ℕ) → start ≤ k → other k j ≡ false) → HasMerged m w f P start end (λ k j. false) xs ys
      → HasMerged m w f P start end other xs ys
  merged_past_others start end other xs ys past is = merged_same start end (λ k j. false) other xs ys (λ k j from below index. sym (past k j from)) is

  -- the value at each index, once all of them are merged
  pub merges_of_values : (xs os ys : List X) → 0 < w → length os ≤ length xs
      → HasMerged m w f P 0 (length xs) (other_at (map f os)) xs ys → (i : ℕ)
      → value_at w (map f ys) i ≡ merge_of_values m (value_at w (map f xs) i) (value_at w (map f os) i)
  merges_of_values xs os ys pos short is i =
      grind (arith, value_at-is, value_at-past, is.digit (i / w) (i % w), mod-lt i pos, length-map, is.len, merge_of_values-none)

-- past the end of the others a union changes nothing
pub merged_rest : {X : Type 0} (w : ℕ) (f : X → ℕ) (P : X → Type 0) (a b c : ℕ) (os es : List ℕ) (xs ys : List X) → b ≤ c
    → ((k : ℕ) → b ≤ k → k < c → length os ≤ k) → HasMerged Union w f P a b (except_at os es) xs ys
    → HasMerged Union w f P a c (except_at os es) xs ys
merged_rest w f P a b c os es xs ys le past is = record {
  digit = λ k j from below index.
      ⊎_elim
      (λ early. is.digit k j from early index)
      (λ late. ap (λ n. is_one n j) (is.after k late) ∙ sym (or-false (is_one (get_or (map f xs) k 0) j)) ∙ ap (λ b. is_one (get_or (map f xs) k 0) j || b) (except_past os es k j (past k late below)))
      (cases_lt k b);
  before = is.before;
  after = λ k h. is.after k (omega arith);
  each = is.each;
  len = is.len;
}

-- ---- blocks that are others

module _ {X : Type 0} (w : ℕ) (f : X → ℕ) where
  pub same_none : (start end : ℕ) (other : ℕ → ℕ → Bool) (xs : List X) → end ≤ start → AreOthers w f start end other xs
  same_none start end other xs le = record { digit = λ k j from below index. absurd (omega arith) }

  pub same_more : (a b c : ℕ) (other : ℕ → ℕ → Bool) (xs : List X) → AreOthers w f a b other xs → AreOthers w f b c other xs
      → AreOthers w f a c other xs
  same_more a b c other xs one two = record {
    digit = λ k j from below index. ⊎_elim (λ early. one.digit k j from early index) (λ late. two.digit k j late below index) (cases_lt k b);
  }

  -- those among them
  pub same_part : (a b c d : ℕ) (other : ℕ → ℕ → Bool) (xs : List X) → a ≤ b → c ≤ d → AreOthers w f a d other xs
      → AreOthers w f b c other xs
  same_part a b c d other xs le also is = record { digit = λ k j from below index. is.digit k j (omega arith) (omega arith) index }

  -- with the same digits
  pub same_as : (start end : ℕ) (d e : ℕ → ℕ → Bool) (xs : List X)
      → ((k j : ℕ) → start ≤ k → k < end → j < w → d k j ≡ e k j)
      → AreOthers w f start end d xs → AreOthers w f start end e xs
  same_as start end d e xs same is = record { digit = λ k j from below index. is.digit k j from below index ∙ same k j from below index }

  -- one of them
  pub same_one : (k a n : ℕ) (other : ℕ → ℕ → Bool) (xs : List X) → a ≡ get_or (map f xs) k 0 → a < 2 ^ w → n < 2 ^ w
      → ((j : ℕ) → j < w → is_one n j ≡ other k j) → (a ≡ n) ↔ AreOthers w f k (k + 1) other xs
  same_one k a n other xs read small also digits = (
    λ e. record {
      digit = λ q j from below index.
          let here : q ≡ k = omega arith in
          ap (λ p. is_one (get_or (map f xs) p 0) j) here
          ∙ ap (λ x. is_one x j) (sym read ∙ e)
          ∙ digits j index
          ∙ ap (λ p. other p j) (sym here);
    },
    λ is. same_from_bits_below w a n small also (λ j index.
        same_digit a n j (ap (λ x. is_one x j) read ∙ is.digit k j (omega arith) (omega arith) index ∙ sym (digits j index))),
  )

  -- one more of them, where a block says of those so far whether one differs
  pub same_so_far : (a k s t m n : ℕ) (other : ℕ → ℕ → Bool) (xs : List X) → a ≤ k → (m ≡ n) ↔ AreOthers w f k (k + 1) other xs
      → (s ≡ 0) ↔ AreOthers w f a k other xs → (t ≡ 0) ↔ ((s ≡ 0) × (m ≡ n)) → (t ≡ 0) ↔ AreOthers w f a (k + 1) other xs
  same_so_far a k s t m n other xs le one before now = (
    λ none. let both = now.0 none in same_more a k (k + 1) other xs (before.0 both.0) (one.0 both.1),
    λ is. now.1 (
      before.1 (same_part a a k (k + 1) other xs (omega arith) (omega arith) is),
      one.1 (same_part a k (k + 1) (k + 1) other xs le (omega arith) is),
    ),
  )

  -- ---- where they first differ

  -- those before the place, or before the end where there is none, are the others
  pub same_before : (end : ℕ) (d : ℕ → ℕ → Bool) (xs : List X) (r : Option ℕ) → FindsDifference w f 0 end d xs r
      → AreOthers w f 0 (unwrap_or r end) d xs
  same_before end d xs None is = is.none
  same_before end d xs (Some place) is = is.same

  -- from digits that are the same
  pub finds_as : (start end : ℕ) (d e : ℕ → ℕ → Bool) (xs : List X) (r : Option ℕ) → start ≤ end
      → ((k j : ℕ) → start ≤ k → k < end → j < w → d k j ≡ e k j)
      → FindsDifference w f start end d xs r → FindsDifference w f start end e xs r
  finds_as start end d e xs None le same is =
      record { within = tt; same = tt; differs = tt; none = same_as start end d e xs same is.none }
  finds_as start end d e xs (Some place) le same is = record {
    within = is.within;
    same = same_as start place d e xs (λ k j from below index. same k j from (omega (arith, is.within)) index) is.same;
    differs = λ all. is.differs (same_as start end e d xs (λ k j from below index. sym (same k j from below index)) all);
    none = tt;
  }

  -- a place that was found stands, however far the search would go
  pub finds_first : (start end far : ℕ) (d : ℕ → ℕ → Bool) (xs : List X) (r : Option ℕ) → end ≤ far → is_some r ≡ true
      → FindsDifference w f start end d xs r → FindsDifference w f start far d xs r
  finds_first start end far d xs None le some is = absurd (false≢true some)
  finds_first start end far d xs (Some place) le some is = record {
    within = omega (arith, is.within);
    same = is.same;
    differs = λ all. is.differs (same_part start start end far d xs (omega arith) le all);
    none = tt;
  }

  -- where none was found, those before the end are the others
  pub all_same : (start end : ℕ) (d : ℕ → ℕ → Bool) (xs : List X) (r : Option ℕ) → is_some r ≡ false
      → FindsDifference w f start end d xs r → AreOthers w f start end d xs
  all_same start end d xs None none is = is.none
  all_same start end d xs (Some place) none is = absurd (false≢true (sym none))

  -- with those before them, which are the others
  pub finds_next : (start from end : ℕ) (d : ℕ → ℕ → Bool) (xs : List X) (r : Option ℕ) → start ≤ from
      → AreOthers w f start from d xs → FindsDifference w f from end d xs r → FindsDifference w f start end d xs r
  finds_next start from end d xs None le before is =
      record { within = tt; same = tt; differs = tt; none = same_more start from end d xs before is.none }
  finds_next start from end d xs (Some place) le before is = record {
    within = is.within;
    same = same_more start from place d xs before is.same;
    differs = λ all. is.differs (same_part start from end end d xs le (omega arith) all);
    none = tt;
  }

  -- with those past them, which are the others
  pub finds_further : (start end far : ℕ) (d : ℕ → ℕ → Bool) (xs : List X) (r : Option ℕ) → end ≤ far
      → AreOthers w f end far d xs → FindsDifference w f start end d xs r → FindsDifference w f start far d xs r
  finds_further start end far d xs None le past is =
      record { within = tt; same = tt; differs = tt; none = same_more start end far d xs is.none past }
  finds_further start end far d xs (Some place) le past is = finds_first start end far d xs (Some place) le refl is

  -- those before a place are the others, and some from there on are not
  pub finds_place : (start place end : ℕ) (d : ℕ → ℕ → Bool) (xs : List X) → start ≤ place → place ≤ end
      → AreOthers w f start place d xs → (AreOthers w f place end d xs → ⊥) → FindsDifference w f start end d xs (Some place)
  finds_place start place end d xs le also before not = record {
    within = also;
    same = before;
    differs = λ all. not (same_part start place end end d xs le (omega arith) all);
    none = tt;
  }

-- the blocks of another list, which are the same just where their numbers are
module _ {X : Type 0} (w : ℕ) (f : X → ℕ) (P : X → Type 0) where
  pub same_numbers : (a b : ℕ) (xs ys : List X) → ((x : X) → P x → f x < 2 ^ w) → All P xs → All P ys
      → AreOthers w f a b (other_at (map f ys)) xs ↔ ((k : ℕ) → a ≤ k → k < b → get_or (map f xs) k 0 ≡ get_or (map f ys) k 0)
  same_numbers a b xs ys law each also = (
    λ is k from below.
        same_from_bits_below w _ _ (numbers_below w f P xs law each k) (numbers_below w f P ys law also k) (λ j index. same_digit _ _ j (is.digit k j from below index)),
    λ same. record { digit = λ k j from below index. ap (λ n. is_one n j) (same k from below) },
  )

  -- blocks that are zeros
  pub zeros_same : (a b : ℕ) (xs : List X) → ((x : X) → P x → f x < 2 ^ w) → All P xs → AreOthers w f a b (λ k j. false) xs
      → (k : ℕ) → a ≤ k → k < b → get_or (map f xs) k 0 ≡ 0
  zeros_same a b xs law each is k from below = zero_from_digits w _ (numbers_below w f P xs law each k) (λ j index. is.digit k j from below index)

-- what an answer tells that says of a first mismatch, by whether there is none
pub none_tells : (P Q : Type 0) (R : ℕ → Type 0) (r : Option ℕ) (b : Bool) → not b ≡ is_some r → MatchOption r P R → (P → Q)
    → ((k : ℕ) → R k → Q → ⊥) → (b ≡ true) ↔ Q
none_tells P Q R None true is all then not_all = (λ _. then all, λ _. refl)
none_tells P Q R None false is all then not_all = absurd (false≢true (sym is))
none_tells P Q R (Some k) true is one then not_all = absurd (false≢true is)
none_tells P Q R (Some k) false is one then not_all = (λ none. absurd (false≢true none), λ all. absurd (not_all k one all))

-- the same of blocks that stay
module _ {X : Type 0} (m : Merge) (w : ℕ) (f : X → ℕ) where
  pub stay_none : (start end : ℕ) (other : ℕ → ℕ → Bool) (xs : List X) → end ≤ start → Stay m w f start end other xs
  stay_none start end other xs le = same_none w f start end (merge_at m f xs other) xs le

  pub stay_part : (a b c d : ℕ) (other : ℕ → ℕ → Bool) (xs : List X) → a ≤ b → c ≤ d → Stay m w f a d other xs → Stay m w f b c other xs
  stay_part a b c d other xs le also is = same_part w f a b c d (merge_at m f xs other) xs le also is

  pub stay_more : (a b c : ℕ) (other : ℕ → ℕ → Bool) (xs : List X) → Stay m w f a b other xs → Stay m w f b c other xs → Stay m w f a c other xs
  stay_more a b c other xs one two = same_more w f a b c (merge_at m f xs other) xs one two

  -- with the same other digits
  pub stay_as : (start end : ℕ) (d e : ℕ → ℕ → Bool) (xs : List X) → ((k j : ℕ) → start ≤ k → k < end → j < w → d k j ≡ e k j)
      → (k j : ℕ) → start ≤ k → k < end → j < w → merge_at m f xs d k j ≡ merge_at m f xs e k j
  stay_as start end d e xs same k j from below index = ap (merge_of_values m (is_one (get_or (map f xs) k 0) j)) (same k j from below index)

  pub stay_same : (start end : ℕ) (d e : ℕ → ℕ → Bool) (xs : List X) → ((k j : ℕ) → start ≤ k → k < end → j < w → d k j ≡ e k j)
      → Stay m w f start end d xs → Stay m w f start end e xs
  stay_same start end d e xs same is = same_as w f start end (merge_at m f xs d) (merge_at m f xs e) xs (stay_as start end d e xs same) is

  -- a block stays just where it is what it merges to
  pub stay_one : (k a b n : ℕ) (xs : List X) → a ≡ get_or (map f xs) k 0 → a < 2 ^ w → n < 2 ^ w
      → ((j : ℕ) → j < w → is_one n j ≡ merge_of_values m (is_one a j) (is_one b j)) → (a ≡ n) ↔ Stay m w f k (k + 1) (λ q j. is_one b j) xs
  stay_one k a b n xs read small also digits =
      same_one w f k a n (merge_at m f xs (λ q j. is_one b j)) xs read small also (λ j index. digits j index ∙ ap (λ x. merge_of_values m (is_one x j) (is_one b j)) read)

module _ {X : Type 0} (m : Merge) (w : ℕ) (f : X → ℕ) (P : X → Type 0) where
  -- the blocks after some that stay are merged, and so all are
  pub merged_past_stay : (start end : ℕ) (other : ℕ → ℕ → Bool) (xs ys : List X) → start ≤ end → Stay m w f 0 start other xs
      → HasMerged m w f P start end other xs ys → HasMerged m w f P 0 end other xs ys
  merged_past_stay start end other xs ys le stay is = record {
    digit = λ k j from below index.
        ⊎_elim
        (λ early. ap (λ n. is_one n j) (is.before k early) ∙ stay.digit k j from early index)
        (λ late. is.digit k j late below index)
        (cases_lt k start);
    before = λ k h. absurd (omega arith);
    after = is.after;
    each = is.each;
    len = is.len;
  }

-- past the end of the others a union changes no block
pub stay_past_others : {X : Type 0} (w : ℕ) (f : X → ℕ) (b c : ℕ) (os es : List ℕ) (xs : List X) → length os ≤ b
    → Stay Union w f b c (except_at os es) xs
stay_past_others w f b c os es xs past = record {
  digit = λ k j from below index.
      sym (or-false (is_one (get_or (map f xs) k 0) j)) ∙ ap (λ b. is_one (get_or (map f xs) k 0) j || b) (except_past os es k j (omega arith));
}

-- ---- lists

-- it stays just where the blocks do
pub kept_lists : (w : ℕ) (ms ns : List ℕ) (len : ℕ) → ((k : ℕ) → get_or ms k 0 < 2 ^ w) → ((k : ℕ) → get_or ns k 0 < 2 ^ w)
    → IsZeroFrom w ms len → IsZeroFrom w ns len → AreKept ms ns ↔ (values_of w ns len ≡ values_of w ms len)
kept_lists w ms ns len small also zero_tail more = (
  λ kept. values_of-same w ns len (values_of w ms len) (length-values_of w ms len) (λ i below.
      value_at-is w ns i ∙ ap (λ n. is_one n (i % w)) (kept (i / w)) ∙ sym (value_at-is w ms i) ∙ sym (get_or-values_of w ms len i false below)),
  λ same k. same_block w ns ms k (also k) (small k) (λ j index.
      sym (get_or-values_of_zero_tail w ns len (k * w + j) more) ∙ ap (λ bs. get_or bs (k * w + j) false) same ∙ get_or-values_of_zero_tail w ms len (k * w + j) zero_tail),
)

-- ---- the summary of a union

-- whether a block is not 0 stays as it was where the others have nothing, or it was not 0 before
used_kept : (w m o e n : ℕ) → m < 2 ^ w → n < 2 ^ w
    → ((j : ℕ) → j < w → is_one n j ≡ (is_one m j || (is_one o j && not (is_one e j))))
    → (not (o == 0) ≡ true → not (m == 0) ≡ true) → not (n == 0) ≡ not (m == 0)
used_kept w m o e n small also digits kept =
    ⊎_elim
    (λ zero.
    let none : o ≡ 0 = grind (arith, kept) in
    let all : n ≡ 0 = zero_from_digits w n also (λ j index. grind (arith, digits j index, is_one-zero)) in
    grind arith)
    (λ some.
    let still : n ≡ 0 → m ≡ 0 = λ all. zero_from_digits w m small (λ j index. grind (arith, digits j index, is_one-zero)) in
    grind (arith, still))
    (cases_eq m 0)

pub used_of_union : {X : Type 0} (w : ℕ) (f : X → ℕ) (P : X → Type 0) (end : ℕ) (os es : List ℕ) (xs ys : List X)
    → ((x : X) → P x → f x < 2 ^ w) → All P xs → HasMerged Union w f P 0 end (except_at os es) xs ys → (k : ℕ)
    → (is_used os k ≡ true → is_used (map f xs) k ≡ true) → is_used (map f ys) k ≡ is_used (map f xs) k
used_of_union w f P end os es xs ys below each is k kept =
    ⊎_elim
    (λ inside. used_kept w (get_or (map f xs) k 0) (get_or os k 0) (get_or es k 0) (get_or (map f ys) k 0)
    (numbers_below w f P xs below each k) (numbers_below w f P ys below is.each k)
    (λ j index. is.digit k j (omega arith) inside index) kept)
    (λ past. ap (λ n. not (n == 0)) (is.after k past))
    (cases_lt k end)
