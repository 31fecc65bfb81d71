-- What the blocks of a list that grew say of its summary.
use Rattle.std.proofs.Common.{◌≡◌, ℕ, ◌+◌, ◌*◌, ◌^◌, ◌<◌, ◌≤◌, Bool, false, List, map, length, get_or, sym, arith}
use Rattle.bit_blocks.{specs.Storage.{value_at, IsPacked, is_used}, proofs.{UseLemmas.same_use, VectorLemmas.numbers_below}}
use Rattle.bit_words.proofs.SummaryLemmas.{kept_use, kept_with_zeros, use_of_added}

-- the blocks xs of a list of n values became ys, of a list of m values, of which those from n on are all `bit`
pub record IsGrown {X : Type 0} (w n m : ℕ) (bit : Bool) (f : X → ℕ) (P : X → Type 0) (xs ys : List X) : Type 0 where
  pub own : IsPacked w f P xs n
  pub new : IsPacked w f P ys m
  pub kept : (i : ℕ) → i < n → value_at w (map f ys) i ≡ value_at w (map f xs) i
  pub added : (i : ℕ) → n ≤ i → i < m → value_at w (map f ys) i ≡ bit

module _ {X : Type 0} (w n m : ℕ) (bit : Bool) (f : X → ℕ) (P : X → Type 0) (xs ys : List X) (pos : 0 < w) (below : (x : X) → P x → f x < 2 ^ w) (is : IsGrown w n m bit f P xs ys) where
  old_small : (k : ℕ) → get_or (map f xs) k 0 < 2 ^ w
  old_small = numbers_below w f P xs below is.own.each

  new_small : (k : ℕ) → get_or (map f ys) k 0 < 2 ^ w
  new_small = numbers_below w f P ys below is.new.each

  pub grown_before : (k : ℕ) → k + 1 < length xs → is_used (map f xs) k ≡ is_used (map f ys) k
  grown_before k before = kept_use w n k (map f xs) (map f ys) pos (old_small k) (new_small k) is.kept (omega (arith, before, is.own.count))

  pub grown_last : bit ≡ false → (k : ℕ) → is_used (map f xs) k ≡ is_used (map f ys) k
  grown_last none k =
      same_use w (map f xs) (map f ys) k (old_small k) (new_small k) (λ j _.
      sym (kept_with_zeros w n m (k * w + j) bit (map f xs) (map f ys) none is.kept is.own.tail.zero_tail is.added is.new.tail.zero_tail))

  pub grown_after : (k : ℕ) → length xs ≤ k → k < length ys → is_used (map f ys) k ≡ bit
  grown_after k from inside =
      use_of_added w n m k (map f ys) bit pos (new_small k) (omega (arith, from, is.own.count)) (omega (arith, inside, is.new.count)) is.added is.new.tail.zero_tail
