-- Blocks that become those of another list, chunk by chunk.
use Rattle.std.proofs.Common.{◌≡◌, ◌≢◌, ℕ, ◌+◌, ◌-◌, ◌*◌, ◌<◌, ◌≤◌, ◌||◌, Bool, false, true, List, set, map, length, get_or, get_or-set_same, get_or-set_other, min, All, refl, sym, ap, subst, ◌∙◌, ⊎_elim, arith}
use Rattle.std.proofs.lemmas.{Bool.{cases_eq, cases_lt, false≢true}, List.{get_or-map, get_or_past, length-map, same_lists}}
use Rattle.bit_blocks.specs.{Digits.is_one, Storage.{is_used}}
use Rattle.bit_blocks.proofs.{CompareLemmas.digit_from_zero, UseLemmas.zero_from_unused}
use Rattle.bit_words.{specs.Summary.AreCopied, proofs.ComparedLemmas.used_within}

module _ {X : Type 0} (number : X → ℕ) (is_block : X → Type 0) where
  -- a chunk of which no block is left
  pub copied_chunk : (w q left : ℕ) (zs xs ys : List X) → left ≡ 0 → ((p : ℕ) → p < w → is_one left p ≡ false → get_or (map number ys) (q * w + p) 0 ≡ get_or (map number zs) (q * w + p) 0)
      → ((k : ℕ) → k < q * w → get_or (map number ys) k 0 ≡ get_or (map number xs) k 0) → ((k : ℕ) → (q + 1) * w ≤ k → get_or (map number ys) k 0 ≡ get_or (map number xs) k 0)
      → All is_block ys → length ys ≡ length xs → AreCopied number is_block (q * w) ((q + 1) * w) zs xs ys
  copied_chunk w q left zs xs ys none same before after each len = record {
    copied = λ k reached below.
        let place : q * w + (k - q * w) ≡ k = omega (arith, reached) in
        rw place at (same (k - q * w) (omega (arith, below, reached)) (digit_from_zero left (k - q * w) none));
    before = before;
    after = after;
    each = each;
    len = len;
  }

  -- some blocks, and then the next
  pub copied_more : (a b c : ℕ) (us xs ys zs : List X) → a ≤ b → b ≤ c → AreCopied number is_block a b us xs ys → AreCopied number is_block b c us ys zs → AreCopied number is_block a c us xs zs
  copied_more a b c us xs ys zs forward onward one two = record {
    copied = λ k reached below. ⊎_elim (λ low. two.before k low ∙ one.copied k reached low) (λ high. two.copied k high below) (cases_lt k b);
    before = λ k low. two.before k (omega (arith, low, forward)) ∙ one.before k low;
    after = λ k high. two.after k high ∙ one.after k (omega (arith, high, onward));
    each = two.each;
    len = two.len ∙ one.len;
  }

  -- where indexes are cut at the greatest number, past the last block
  pub copied_saturated : (a b m : ℕ) (zs xs ys : List X) → a ≤ b → length xs ≤ m → length zs ≡ length xs → AreCopied number is_block (min a m) (min b m) zs xs ys → AreCopied number is_block a b zs xs ys
  copied_saturated a b m zs xs ys forward few alike is =
      let past : (k : ℕ) → m ≤ k → get_or (map number ys) k 0 ≡ 0 = λ k high. get_or_past (map number ys) k 0 (rw length-map (omega (arith, high, few, is.len))) in
      let gone : (k : ℕ) → m ≤ k → get_or (map number xs) k 0 ≡ 0 = λ k high. get_or_past (map number xs) k 0 (rw length-map (omega (arith, high, few))) in
      let none : (k : ℕ) → m ≤ k → get_or (map number zs) k 0 ≡ 0 = λ k high. get_or_past (map number zs) k 0 (rw length-map (omega (arith, high, few, alike))) in
      record {
        copied = λ k reached below. ⊎_elim (λ (low : k < m). is.copied k (omega (arith, reached)) (omega (arith, below, low))) (λ high. past k high ∙ sym (none k high)) (cases_lt k m);
        before = λ k low. ⊎_elim (λ (in_range : k < m). is.before k (omega (arith, low, in_range))) (λ high. past k high ∙ sym (gone k high)) (cases_lt k m);
        after = λ k high. is.after k (omega (arith, high));
        each = is.each;
        len = is.len;
      }

  -- blocks of the same numbers are the same
  pub same_blocks : (block : ℕ → X) (xs ys : List X) → ((x : X) → is_block x → block (number x) ≡ x) → All is_block xs → All is_block ys → length xs ≡ length ys
      → ((k : ℕ) → k < length xs → get_or (map number xs) k 0 ≡ get_or (map number ys) k 0) → xs ≡ ys
  same_blocks block xs ys back each also alike same =
      same_lists xs ys alike (λ k d within.
      let there : k < length ys = omega (arith, within, alike) in
      let numbers : number (get_or xs k d) ≡ number (get_or ys k d) = sym (get_or-map number xs k d 0 within) ∙ same k within ∙ get_or-map number ys k d 0 there in
      sym (back (get_or xs k d) (each k d within)) ∙ ap block numbers ∙ back (get_or ys k d) (also k d there))

-- Block i became n, and no other changed.
pub record IsBlockPut {X : Type 0} (number : X → ℕ) (i n : ℕ) (xs ys : List X) : Type 0 where
  pub here : get_or (map number ys) i 0 ≡ n
  pub others : (k : ℕ) → k ≢ i → get_or (map number ys) k 0 ≡ get_or (map number xs) k 0

pub set_block : {X : Type 0} (number : X → ℕ) (i n : ℕ) (xs ys : List X) → i < length xs → map number ys ≡ set (map number xs) i n → IsBlockPut number i n xs ys
set_block number i n xs ys inside is = record {
  here = ap (λ ms. get_or ms i 0) is ∙ get_or-set_same (map number xs) i n 0 (rw length-map inside);
  others = λ k apart. ap (λ ms. get_or ms k 0) is ∙ get_or-set_other (map number xs) i k n 0 apart;
}

-- a block that was the same is so, where one became that of the other list
pub still_same : {X : Type 0} (number : X → ℕ) (i n k : ℕ) (zs xs ys : List X) → IsBlockPut number i n xs ys → get_or (map number ys) i 0 ≡ get_or (map number zs) i 0
    → get_or (map number xs) k 0 ≡ get_or (map number zs) k 0 → get_or (map number ys) k 0 ≡ get_or (map number zs) k 0
still_same number i n k zs xs ys put here same =
    ⊎_elim
    (λ (e : k ≡ i). subst (λ j. get_or (map number ys) j 0 ≡ get_or (map number zs) j 0) (sym e) here)
    (λ (apart : k ≢ i). put.others k apart ∙ same)
    (cases_eq k i)

-- a block that is not 0 in one of two lists of one length, and one that is 0 in both
pub either_within : {X : Type 0} (number : X → ℕ) (k : ℕ) (xs zs : List X) (a b : Bool) → a ≡ is_used (map number xs) k → b ≡ is_used (map number zs) k → length zs ≡ length xs
    → (a || b) ≡ true → k < length xs
either_within number k xs zs true b own other alike some = used_within number xs k (sym own)
either_within number k xs zs false b own other alike some = omega (arith, alike, used_within number zs k (sym other ∙ some))

pub either_same : {X : Type 0} (number : X → ℕ) (k : ℕ) (xs zs : List X) (a b : Bool) → a ≡ is_used (map number xs) k → b ≡ is_used (map number zs) k → (a || b) ≡ false
    → get_or (map number xs) k 0 ≡ get_or (map number zs) k 0
either_same number k xs zs true b own other none = absurd (false≢true (sym none))
either_same number k xs zs false b own other none = zero_from_unused _ (sym own) ∙ sym (zero_from_unused _ (sym other ∙ none))

-- no blocks are copied yet
pub copied_none : {X : Type 0} (number : X → ℕ) (is_block : X → Type 0) (a : ℕ) (zs xs : List X) → All is_block xs → AreCopied number is_block a a zs xs xs
copied_none number is_block a zs xs each = record { copied = λ k reached below. absurd (omega arith); before = λ k low. refl; after = λ k high. refl; each = each; len = refl }

-- all chunks are
pub copied_all : {X : Type 0} (w chunks : ℕ) (block : ℕ → X) (number : X → ℕ) (is_block : X → Type 0) (zs xs ys : List X) → ((x : X) → is_block x → block (number x) ≡ x)
    → All is_block zs → length xs ≤ chunks * w → length zs ≡ length xs → AreCopied number is_block (0 * w) (chunks * w) zs xs ys → ys ≡ zs
copied_all w chunks block number is_block zs xs ys back each enough alike is =
    same_blocks number is_block block ys zs back is.each each (omega (arith, is.len, alike)) (λ k within. is.copied k (omega arith) (omega (arith, within, is.len, enough)))
