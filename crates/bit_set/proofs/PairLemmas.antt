-- Two sides of blocks that are pulled as one.
use Rattle.std.proofs.Common.{◌≡◌, ℕ, zero, suc, ◌+◌, ◌*◌, ◌^◌, ◌<◌, ◌≤◌, max, min, Bool, true, false, List, [], ◌∷◌, ◌++◌, map, length, All, Option, Some, None, refl, sym, ap, ◌∙◌, subst, arith, ap₂}
use Rattle.std.{proofs.{Math.{Nat.mul-le-mul_right, Bool.and_comm}, lemmas.List.Sums.{length-filter, count_by-le-length}}, specs.{Prelude.IfSome, Iterator.YieldsFirst}}
use Rattle.bit_blocks.specs.{Digits.is_one, Merges.{merge_of_values, merge_of}, declared.block.merge.Merge.{Merge, TheVariants.Intersection}, Bits.{blocks_of, blocks_for}}
use Rattle.bit_words.specs.Source.{Source, PullsIf}
use Rattle.bit_blocks.proofs.{Masks.is_one-zero, MergeLemmas.length-merged, BitsLemmas.blocks_for-le}
use Rattle.set_algebra.specs.Sets.{elements, intersection, merge_of_sets, has}
use Rattle.bit_set.specs.Indexes.{digits_from, values_in, Ahead, PullsBlock, PullsBlockIf, IsWalkable, IsMergedBlock, IsMergedPull}
use Rattle.set_algebra.proofs.AlgebraLemmas.{elements-merged, IsAscending-merge_of_sets, has-intersection}
use Rattle.bit_set.proofs.WalkLemmas.{length-values_of_blocks, length-blocks, elements-values_of_blocks, IsWalkable-of, All-pulled}
use Rattle.set_algebra.proofs.SetLemmas.{IsAscending-elements, length-elements-le, same_members}

-- ---- what two lists of blocks have

-- a bound of both sides, where f keeps the order
max_of : (f : ℕ → ℕ) (m n : ℕ) → ((a b : ℕ) → a ≤ b → f a ≤ f b) → max (f m) (f n) ≡ f (max m n)
max_of f m n keeps = let up = keeps m n in let down = keeps n m in grind arith

-- what is in both lists is no more than either has
pub length-intersection : (a b : List Bool) → length (intersection (elements a) (elements b)) ≤ min (length a) (length b)
length-intersection a b =
    let s = elements a in
    let t = elements b in
    let up = IsAscending-merge_of_sets Intersection in
    let same = same_members (intersection s t) (intersection t s) (up s t (IsAscending-elements a)) (up t s (IsAscending-elements b))
    (λ n. has-intersection s t n ∙ and_comm (has s n) (has t n) ∙ sym (has-intersection t s n)) in
    omega (
      arith,
      ap length same,
      length-filter (λ n. has t n) s,
      count_by-le-length (λ n. has t n) s,
      length-filter (λ n. has s n) t,
      count_by-le-length (λ n. has s n) t,
      length-elements-le 0 a,
      length-elements-le 0 b,
    )

-- ---- a pull of both

-- the digits of two blocks, and what is past them
pub both_digits : (merge : Merge) (m n r a w : ℕ) (xs ys : List Bool) → ((i : ℕ) → a ≤ i → i < a + w → is_one r i ≡ merge_of_values merge (is_one m i) (is_one n i))
    → merge_of merge (digits_from m a w ++ xs) (digits_from n a w ++ ys) ≡ digits_from r a w ++ merge_of merge xs ys
both_digits merge m n r a zero xs ys each = refl
both_digits merge m n r a (suc w) xs ys each = ap₂ ◌∷◌ (sym (each a (omega arith) (omega arith))) (both_digits merge m n r (a + 1) w xs ys (λ i low high. each i (omega arith) (omega arith)))

-- the digits of a block of the first side alone, and of the second side alone, merged with zeros
pub first_digits : (merge : Merge) (m r a w : ℕ) (xs : List Bool) → ((i : ℕ) → a ≤ i → i < a + w → is_one r i ≡ merge_of_values merge (is_one m i) (is_one 0 i))
    → merge_of merge (digits_from m a w ++ xs) [] ≡ digits_from r a w ++ merge_of merge xs []
first_digits merge m r a zero xs each = refl
first_digits merge m r a (suc w) xs each =
    ap₂ ◌∷◌ (sym (each a (omega arith) (omega arith) ∙ ap (merge_of_values merge (is_one m a)) (is_one-zero a)))
    (first_digits merge m r (a + 1) w xs (λ i low high. each i (omega arith) (omega arith)))

pub second_digits : (merge : Merge) (n r a w : ℕ) (ys : List Bool) → ((i : ℕ) → a ≤ i → i < a + w → is_one r i ≡ merge_of_values merge (is_one 0 i) (is_one n i))
    → merge_of merge [] (digits_from n a w ++ ys) ≡ digits_from r a w ++ merge_of merge [] ys
second_digits merge n r a zero ys each = refl
second_digits merge n r a (suc w) ys each =
    ap₂ ◌∷◌ (sym (each a (omega arith) (omega arith) ∙ ap (λ v. merge_of_values merge v (is_one n a)) (is_one-zero a)))
    (second_digits merge n r (a + 1) w ys (λ i low high. each i (omega arith) (omega arith)))

-- a call of `next_if` gives a block, and leaves such
pub All-next_if : {X : Type 0} (number : X → ℕ) (is_block : X → Type 0) (wanted : Bool) (s t : Source X) (r : Option X)
    → All is_block s.left → PullsIf is_block number wanted s r t → IfSome r is_block × All is_block t.left
All-next_if number is_block true s t r each next = All-pulled is_block s.left t.left r each (next.pulled refl).item
All-next_if number is_block false s t None each next = absurd (next.zeros refl)
All-next_if number is_block false s t (Some x) each next = ((next.zeros refl).0, subst (λ u. All is_block u.left) (sym (next.same refl)) each)

pub same_pulls_if : {X : Type 0} (number : X → ℕ) (is_block : X → Type 0) (wanted : Bool) (s s' t t' : Source X) (o p : Option X)
    → PullsIf is_block number wanted s o s' → PullsIf is_block number wanted t p t' → t.pulls ≡ s.pulls → t'.pulls ≡ s'.pulls
same_pulls_if number is_block wanted s s' t t' o p next other same = grind arith

module _ {X : Type 0} (w : ℕ) (number : X → ℕ) (merge : Merge) where
  -- what two lists of blocks hold, merged
  abbrev pub both_held : List X → List X → List Bool
  both_held xs ys = merge_of merge (values_in w (map number xs)) (values_in w (map number ys))

  abbrev pub both_ahead : List X → List X → ℕ → Ahead
  both_ahead xs ys pulls = record { values = both_held xs ys; blocks = max (length xs) (length ys); pulls = pulls }

  pub both_pulled : (xs xs' ys ys' : List X) (pulls pulls' : ℕ) (a b r : Option X) → YieldsFirst (λ zs. zs) xs a xs'
      → YieldsFirst (λ zs. zs) ys b ys' → IsMergedPull w number merge a b r → pulls' ≡ pulls + 1
      → PullsBlock w number (both_ahead xs ys pulls) r (both_ahead xs' ys' pulls')
  both_pulled xs xs' ys ys' pulls pulls' None None r first second is counted =
      rw (is, first.0, first.1, second.0, second.1) (record { values = (refl, refl); blocks = (omega arith, omega arith); counted = counted })
  both_pulled xs xs' ys ys' pulls pulls' (Some a) None None first second is counted = absurd is
  both_pulled xs xs' ys ys' pulls pulls' (Some a) None (Some x) first second is counted =
      rw (first, second.0, second.1) (record {
        values = first_digits merge (number a) (number x) 0 w (values_in w (map number xs')) (λ i low high. is.digit i (omega arith));
        blocks = omega arith;
        counted = counted;
      })
  both_pulled xs xs' ys ys' pulls pulls' None (Some b) None first second is counted = absurd is
  both_pulled xs xs' ys ys' pulls pulls' None (Some b) (Some x) first second is counted =
      rw (first.0, first.1, second) (record {
        values = second_digits merge (number b) (number x) 0 w (values_in w (map number ys')) (λ i low high. is.digit i (omega arith));
        blocks = omega arith;
        counted = counted;
      })
  both_pulled xs xs' ys ys' pulls pulls' (Some a) (Some b) None first second is counted = absurd is
  both_pulled xs xs' ys ys' pulls pulls' (Some a) (Some b) (Some x) first second is counted =
      rw (first, second) (record {
        values = both_digits merge (number a) (number b) (number x) 0 w (values_in w (map number xs')) (values_in w (map number ys')) (λ i low high. is.digit i (omega arith));
        blocks = omega arith;
        counted = counted;
      })

  -- a pull that may be left out, of both
  pub both_pulled_if : (is_block : X → Type 0) (wanted : Bool) (s s' t t' : Source X) (o p : Option X) (a b r : X)
      → o ≡ Some a → p ≡ Some b → PullsIf is_block number wanted s o s' → PullsIf is_block number wanted t p t'
      → IsMergedBlock w merge (number a) (number b) (number r) → PullsBlockIf w number wanted (both_ahead s.left t.left s.pulls) (Some r) (both_ahead s'.left t'.left s'.pulls)
  both_pulled_if is_block wanted s s' t t' o p a b r first second next other is = record {
    pulled = λ yes.
        both_pulled s.left s'.left t.left t'.left s.pulls s'.pulls (Some a) (Some b) (Some r) (rw first at (next.pulled yes).item) (rw second at (other.pulled yes).item) is (next.pulled yes).counted;
    same = λ no. ap₂ (λ (u v : Source X). both_ahead u.left v.left u.pulls) (next.same no) (other.same no);
  }

  -- ---- the making

  -- the lists of truth values become what their blocks become
  pub walkable_both : (xs ys : List X) (a b : List Bool) (pulls : ℕ) → 0 < w → map number xs ≡ blocks_of w a → map number ys ≡ blocks_of w b → length a < 2 ^ 64 → length b < 2 ^ 64
      → IsWalkable w (both_ahead xs ys pulls) × (elements (both_held xs ys) ≡ merge_of_sets merge (elements a) (elements b))
      × (max (length xs) (length ys) ≡ max (blocks_for w (length a)) (blocks_for w (length b)))
  walkable_both xs ys a b pulls pos first second first_fits second_fits =
      let all = elements-merged merge _ _ ∙ ap₂ (merge_of_sets merge) (elements-values_of_blocks w number xs a pos first) (elements-values_of_blocks w number ys b pos second) in
      let blocks = ap₂ max (length-blocks w number xs a first) (length-blocks w number ys b second) in
      let long = length-merged merge a b in (
        IsWalkable-of w (both_ahead xs ys pulls) (merge_of merge a b)
            (length-merged merge _ _ ∙ ap₂ max (length-values_of_blocks w number xs) (length-values_of_blocks w number ys)
            ∙ max_of (λ k. k * w) (length xs) (length ys) (λ m n le. mul-le-mul_right w le))
            (blocks ∙ max_of (blocks_for w) (length a) (length b) (λ m n le. blocks_for-le w m n pos le) ∙ ap (blocks_for w) (sym long))
            (all ∙ sym (elements-merged merge a b))
            (omega (arith, long)),
        all,
        blocks,
      )
