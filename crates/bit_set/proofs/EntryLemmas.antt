-- The blocks that are not 0, each with its index: the indexes of their ones, and which blocks these lie in.
use Rattle.std.proofs.Common.{◌≡◌, ℕ, ◌+◌, ◌-◌, ◌*◌, ◌/◌, ◌^◌, ◌<◌, ◌≤◌, ◌==◌, nat_lt, true, false, List, [], ◌∷◌, ◌++◌, map, length, get_or, All, refl, sym, ap, ◌∙◌, subst, arith}
use Rattle.std.proofs.lemmas.{Bool.{cond_both, eqb-true, eqb-false, true≢false, Decides.nat_tests}, Nat.div-mul-add, List.Elements.{All-nil, All-cons, All-head, All-tail}}
use Rattle.std.proofs.{Math.Nat.div-lt_iff_lt-mul}
use Rattle.bit_blocks.{specs.Digits.is_one, proofs.{HighestLemmas.{highest_found, highest_within}, Masks.is_one-bit}}
use Rattle.bit_words.specs.Nonzero.{nonzero_from}
use Rattle.set_algebra.specs.Sets.{AscendsFrom, elements_from, has}
use Rattle.bit_set.specs.{Indexes.{digits_from, indexes, indexes_of}, Walk.blocks_past}
use Rattle.set_algebra.proofs.SetLemmas.{AscendsFrom-lower, has-elements_from}
use Rattle.bit_set.proofs.IndexLemmas.{AscendsFrom-indexes, indexes-apart, indexes-below, indexes-next, indexes-zero, value_in}
use Rattle.bit_set.proofs.WalkLemmas.{values_of_blocks}

-- numbers in a block are passed
pub passed_in_block : (w q : ℕ) (xs ys : List ℕ) → 0 < w → All (λ n. n < (q + 1) * w) xs → blocks_past w q (xs ++ ys) ≡ blocks_past w q ys
passed_in_block w q [] ys pos below = refl
passed_in_block w q (x ∷ xs) ys pos below =
    let block : x / w < q + 1 = (div-lt_iff_lt-mul pos).1 (All-head (λ n. n < (q + 1) * w) x xs below) in
    let test : nat_lt q (x / w) ≡ false = grind (arith, nat_tests) in
    rw test (passed_in_block w q xs ys pos (All-tail (λ n. n < (q + 1) * w) x xs below))

-- a block that is not 0 has a one
pub some_index : (w p m : ℕ) → 0 < m → m < 2 ^ w → indexes w p m [] ≡ [] → ⊥
unfolding indexes
some_index w p m some small none =
    let high = highest_found w m some small in
    let i : ℕ = high.0 in
    let within = highest_within w m i small high.1 in
    let digit : get_or (digits_from m 0 w ++ []) i false ≡ is_one m i =
    ap (λ k. get_or (digits_from m 0 w ++ []) k false) (let e : i ≡ 0 * w + i = omega arith in e) ∙ value_in w (m ∷ []) 0 i within in
    true≢false (sym (is_one-bit 1 m i high.1.one) ∙ sym digit ∙ sym (has-elements_from p (digits_from m 0 w ++ []) i) ∙ ap (λ xs. has xs (p + i)) none)

module _ {X : Type 0} (w : ℕ) (number : X → ℕ) where
  -- they ascend, up to a number past them
  pub ascends_entries : (q s : ℕ) (xs : List X) → q + length xs ≤ s → AscendsFrom q (map (λ entry. entry.0) (nonzero_from number q xs) ++ s ∷ [])
  ascends_entries q s [] within = (omega (arith, within), tt)
  ascends_entries q s (x ∷ xs) within =
      let rest = ascends_entries (q + 1) s xs (omega (arith, within)) in
      cond_both (number x == 0) (nonzero_from number (q + 1) xs) ((q, x) ∷ nonzero_from number (q + 1) xs) (λ entries. AscendsFrom q (map (λ (entry : ℕ × X). entry.0) entries ++ s ∷ []))
      (λ _. AscendsFrom-lower (q + 1) q _ (omega arith) rest)
      (λ _. (omega arith, rest))

  -- each is one of the blocks
  pub each_entry : (is_block : X → Type 0) (q : ℕ) (xs : List X) → All is_block xs → All (λ entry. is_block entry.1) (nonzero_from number q xs)
  each_entry is_block q [] each = All-nil (λ (entry : ℕ × X). is_block entry.1)
  each_entry is_block q (x ∷ xs) each =
      let rest = each_entry is_block (q + 1) xs (All-tail is_block x xs each) in
      cond_both (number x == 0) (nonzero_from number (q + 1) xs) ((q, x) ∷ nonzero_from number (q + 1) xs) (All (λ (entry : ℕ × X). is_block entry.1))
      (λ _. rest)
      (λ _. All-cons (λ (entry : ℕ × X). is_block entry.1) (q, x) _ (All-head is_block x xs each) rest)

  -- they have the ones of all
  pub indexes_of-nonzero : (q : ℕ) (xs : List X) → indexes_of w number (nonzero_from number q xs) ≡ elements_from (q * w) (values_of_blocks w number xs)
  indexes_of-nonzero q [] = refl
  indexes_of-nonzero q (x ∷ xs) =
      let bs = values_of_blocks w number xs in
      let next : q * w + w ≡ (q + 1) * w = omega arith in
      let rest : indexes_of w number (nonzero_from number (q + 1) xs) ≡ elements_from (q * w + w) bs = indexes_of-nonzero (q + 1) xs ∙ ap (λ p. elements_from p bs) (sym next) in
      let whole : elements_from (q * w) (values_of_blocks w number (x ∷ xs)) ≡ indexes w (q * w) (number x) bs = indexes-next w (q * w) (number x) _ bs refl in
      cond_both (number x == 0) (nonzero_from number (q + 1) xs) ((q, x) ∷ nonzero_from number (q + 1) xs)
      (λ entries. indexes_of w number entries ≡ elements_from (q * w) (values_of_blocks w number (x ∷ xs)))
      (λ none. rest ∙ sym (whole ∙ ap (λ m. indexes w (q * w) m bs) (eqb-true (number x) 0 none) ∙ indexes-zero w (q * w) bs))
      (λ some. ap (λ ys. indexes w (q * w) (number x) [] ++ ys) rest ∙ sym (whole ∙ indexes-apart w (q * w) (number x) bs))

  -- and lie in as many blocks
  pub blocks_of_entry : (k q m : ℕ) (ones rest : List ℕ) → 0 < w → k < q → indexes w (q * w) m [] ≡ ones → (ones ≡ [] → ⊥) → blocks_past w k (ones ++ rest) ≡ q ∷ blocks_past w q rest
  blocks_of_entry k q m [] rest pos before is some = absurd (some refl)
  blocks_of_entry k q m (x ∷ xs) rest pos before is some =
      let up = subst (AscendsFrom (q * w)) is (AscendsFrom-indexes w (q * w) m []) in
      let next : q * w + w ≡ (q + 1) * w = omega arith in
      let below = rw next at (subst (All (λ n. n < q * w + w)) is (indexes-below w (q * w) m)) in
      let first = All-head (λ n. n < (q + 1) * w) x xs below in
      let j : ℕ = x - q * w in
      let e : q * w + j ≡ x = omega (arith, up.0) in
      let block : x / w ≡ q = ap (λ n. n / w) (sym e) ∙ div-mul-add q w j (omega (arith, first, up.0)) in
      let test : nat_lt k (x / w) ≡ true = grind (arith, nat_tests) in
      rw test (rw block (ap (λ ys. q ∷ ys) (passed_in_block w q xs rest pos (All-tail (λ n. n < (q + 1) * w) x xs below))))

  pub blocks_of_entries : (is_block : X → Type 0) → ((x : X) → is_block x → number x < 2 ^ w) → (k q : ℕ) (xs : List X) → 0 < w → k < q
      → All is_block xs → length (blocks_past w k (indexes_of w number (nonzero_from number q xs))) ≡ length (nonzero_from number q xs)
  blocks_of_entries is_block small k q [] pos before each = refl
  blocks_of_entries is_block small k q (x ∷ xs) pos before each =
      let others = All-tail is_block x xs each in
      cond_both (number x == 0) (nonzero_from number (q + 1) xs) ((q, x) ∷ nonzero_from number (q + 1) xs) (λ entries. length (blocks_past w k (indexes_of w number entries)) ≡ length entries)
      (λ _. blocks_of_entries is_block small k (q + 1) xs pos (omega (arith, before)) others)
      (λ some.
      let m = number x in
      let rest = indexes_of w number (nonzero_from number (q + 1) xs) in
      let is_some : indexes w (q * w) m [] ≡ [] → ⊥ = some_index w (q * w) m (let other = eqb-false m 0 some in omega (arith, other)) (small x (All-head is_block x xs each)) in
      let block = ap length (blocks_of_entry k q m (indexes w (q * w) m []) rest pos before refl is_some) in
      let more = blocks_of_entries is_block small q (q + 1) xs pos (omega arith) others in
      omega (arith, block, more))
