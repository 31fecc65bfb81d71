-- How many elements a walk has left that goes by the blocks that are not 0.
use Rattle.std.proofs.Common.{◌≡◌, ℕ, ◌+◌, ◌*◌, ◌^◌, ◌<◌, List, [], ◌∷◌, ◌++◌, length, All, count_ones, refl}
use Rattle.std.proofs.{Common.{arith, length-append}, lemmas.List.{Elements.{All-head, All-tail}, Sums.sum_by-cons}}
use Rattle.bit_words.specs.Nonzero.{Hand, Nonzeros, ones_left}
use Rattle.bit_set.{specs.Indexes.{indexes, indexes_of, left_between, IsSparseWalk}, proofs.IndexLemmas.length-indexes}

module _ {X : Type 0} (w : ℕ) (number : X → ℕ) (is_block : X → Type 0) (small : (x : X) → is_block x → number x < 2 ^ w) where
  ones_of_block : (p : ℕ) (x : X) → is_block x → length (indexes w p (number x) []) ≡ count_ones (number x)
  ones_of_block p x lawful = let count = length-indexes w p (number x) [] (small x lawful) in omega (arith, count)

  pub ones_of_entries : (entries : List (ℕ × X)) → All (λ (entry : ℕ × X). is_block entry.1) entries → length (indexes_of w number entries) ≡ ones_left number entries
  ones_of_entries [] each = refl
  ones_of_entries (entry ∷ entries) each =
      let rest = ones_of_entries entries (All-tail (λ (e : ℕ × X). is_block e.1) entry entries each) in
      let first = ones_of_block (entry.0 * w) entry.1 (All-head (λ (e : ℕ × X). is_block e.1) entry entries each) in
      omega (arith, rest, first, length-append (indexes w (entry.0 * w) (number entry.1) []) (indexes_of w number entries), sum_by-cons (λ (e : ℕ × X). count_ones (number e.1)) entry entries)

  -- those of the block in hand, of the blocks to pull, and of the one at the back
  pub ones_ahead : (front back : Hand X) (it : Nonzeros X) → IsSparseWalk w number is_block front it back
      → count_ones (number front.block) + ones_left number it.left + count_ones (number back.block) ≡ length (left_between w number front it.left back)
  ones_ahead front back it is =
      let first = indexes w front.index (number front.block) [] in
      let inner = indexes_of w number it.left in
      let last = indexes w back.index (number back.block) [] in
      omega (
        arith,
        length-append first (inner ++ last),
        length-append inner last,
        ones_of_block front.index front.block is.in_hand,
        ones_of_entries it.left is.each,
        ones_of_block back.index back.block is.at_back,
      )
