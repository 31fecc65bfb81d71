-- How many elements a walk may have left, by the blocks from the one in hand at the front to the one at the back.
use Rattle.std.proofs.Common.{◌≡◌, ℕ, ◌+◌, ◌-◌, ◌*◌, ◌/◌, ◌^◌, ◌<◌, ◌≤◌, List, [], ◌∷◌, ◌++◌, map, length, All, Option, Some, None, ap, arith, mul-le-mul_right}
use Rattle.std.proofs.lemmas.{Bool.Decides.nat_tests, List.Elements.{All-nil, All-cons, All-head, All-tail, All-append, All-weaker}}
use Rattle.std.specs.Option.{SomeIff}
use Rattle.bit_words.specs.Nonzero.{Hand, Nonzeros}
use Rattle.set_algebra.{specs.Sets.{AscendsFrom, IsAscending}, proofs.SetLemmas.AscendsFrom-reach}
use Rattle.bit_set.specs.{Indexes.{indexes, indexes_of, left_between, IsSparseWalk}, Walk.bound_on_rest}
use Rattle.bit_set.proofs.{IndexLemmas.{AscendsFrom-indexes, indexes-below}, SparseLemmas.ends_apart}

-- n lies from low on and below high
pub record LiesWithin (low high n : ℕ) : Type 0 where
  pub from : low ≤ n
  pub below : n < high

each_from : (low : ℕ) (xs : List ℕ) (lower : ℕ) → lower ≤ low → AscendsFrom low xs → All (λ n. lower ≤ n) xs
each_from low [] lower le up = All-nil (λ n. lower ≤ n)
each_from low (x ∷ xs) lower le up = All-cons (λ n. lower ≤ n) x xs (omega (arith, le, up.0)) (each_from (x + 1) xs lower (omega (arith, le, up.0)) up.1)

both : (low high : ℕ) (xs : List ℕ) → All (λ n. low ≤ n) xs → All (λ n. n < high) xs → All (LiesWithin low high) xs
both low high xs from below = λ k d inside. record { from = from k d inside; below = below k d inside }

-- what ascends within a range is no more than its numbers
fewer_from : (low high : ℕ) (xs : List ℕ) → AscendsFrom low xs → All (LiesWithin low high) xs → length xs ≤ high - low
fewer_from low high [] up each = omega arith
fewer_from low high (x ∷ xs) up each =
    let here = All-head (LiesWithin low high) x xs each in
    let others = All-tail (LiesWithin low high) x xs each in
    let above = both (x + 1) high xs (each_from (x + 1) xs (x + 1) (omega arith) up.1) (All-weaker (LiesWithin low high) (λ n. n < high) (λ n is. is.below) xs others) in
    let rest = fewer_from (x + 1) high xs up.1 above in
    omega (arith, rest, here.from, here.below)

fewer : (low high : ℕ) (xs : List ℕ) → IsAscending xs → All (LiesWithin low high) xs → length xs ≤ high - low
fewer low high [] up each = omega arith
fewer low high (x ∷ xs) up each = let here = All-head (LiesWithin low high) x xs each in fewer_from low high (x ∷ xs) (here.from, up.1) each

-- the indexes of a block
block_within : (w p m low high : ℕ) → low ≤ p → p + w ≤ high → All (LiesWithin low high) (indexes w p m [])
block_within w p m low high from to =
    both low high _ (each_from p _ low from (AscendsFrom-indexes w p m [])) (All-weaker (λ n. n < p + w) (λ n. n < high) (λ n below. omega (arith, below, to)) _ (indexes-below w p m))

module _ {X : Type 0} (w : ℕ) (number : X → ℕ) where
  entries_within : (f b low high : ℕ) (entries : List (ℕ × X)) → low ≤ f * w → (b + 1) * w ≤ high
      → AscendsFrom f (map (λ entry. entry.0) entries ++ (b + 1) ∷ []) → All (LiesWithin low high) (indexes_of w number entries)
  entries_within f b low high [] from to up = All-nil (LiesWithin low high)
  entries_within f b low high (entry ∷ entries) from to up =
      let k : ℕ = entry.0 in
      let reach = AscendsFrom-reach (k + 1) (map (λ (e : ℕ × X). e.0) entries) (b + 1) up.1 in
      let least = mul-le-mul_right w up.0 in
      let most = mul-le-mul_right w reach in
      All-append (LiesWithin low high) (indexes w (k * w) (number entry.1) []) (indexes_of w number entries)
      (block_within w (k * w) (number entry.1) low high (omega (arith, from, least)) (omega (arith, to, most)))
      (entries_within (k + 1) b low high entries (omega (arith, from, least)) to up.1)

  pub left-most : (is_block : X → Type 0) (pos : 0 < w) (front back : Hand X) (it : Nonzeros X)
      → IsSparseWalk w number is_block front it back → length (left_between w number front it.left back) ≤ back.index - front.index + w
  left-most is_block pos front back it is =
      let f = front.index / w in
      let b = back.index / w in
      let apart = mul-le-mul_right w (ends_apart w number is_block pos front back it is) in
      let low = front.index in
      let high = back.index + w in
      let before : low ≤ back.index = omega (arith, is.whole, is.whole_back, apart) in
      let all = All-append (LiesWithin low high) _ _ (block_within w low (number front.block) low high (omega arith) (omega (arith, before)))
      (All-append (LiesWithin low high) _ _ (entries_within (f + 1) b low high it.left (omega (arith, is.whole)) (omega (arith, is.whole_back)) is.past)
      (block_within w back.index (number back.block) low high before (omega arith))) in
      let count = fewer low high _ is.ascends all in
      omega (arith, count, before)

-- the digits of these blocks
pub digits_between : (w p q : ℕ) → p ≡ p / w * w → q ≡ q / w * w → p / w ≤ q / w → (1 + (q / w - p / w)) * w ≡ q - p + w
digits_between w p q whole_p whole_q apart =
    let least = mul-le-mul_right w apart in
    let e = ap (λ n. n * w) (let e : p / w + (q / w - p / w) ≡ q / w = omega (arith, apart) in e) in
    omega (arith, whole_p, whole_q, e, least)

pub bound_is : (r : Option ℕ) (w blocks sum : ℕ) → SomeIff r (sum < 2 ^ 64) sum → (1 + blocks) * w ≡ sum → r ≡ bound_on_rest w blocks
bound_is None w blocks sum is same = grind (arith, nat_tests, is, same)
bound_is (Some n) w blocks sum is same = grind (arith, nat_tests, is, same)
