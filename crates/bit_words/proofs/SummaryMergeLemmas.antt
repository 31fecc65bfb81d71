-- The summary of what the blocks of two lists merge to.
use Rattle.std.proofs.Common.{◌≡◌, ℕ, ◌^◌, ◌<◌, ◌≤◌, false, not, ◌&&◌, ◌||◌, ◌==◌, List}
use Rattle.std.proofs.Common.{map, length, get_or, All, sym, ap, ap₂, ◌∙◌, arith, ⊎_elim}
use Rattle.std.proofs.lemmas.{Bool.{cases_lt, Decides.nat_tests}, List.length-map}
use Rattle.bit_blocks.specs.{Digits.is_one, declared.block.merge.Merge.TheVariants.Union}
use Rattle.bit_blocks.specs.{BlockMerges.{except_at, HasMerged}, Storage.value_at}
use Rattle.bit_blocks.{specs.Storage.is_used, proofs.{CompareLemmas.zero_from_digits, Masks.is_one-zero}}
use Rattle.bit_words.specs.Summary.{IsSummary}
use Rattle.bit_blocks.proofs.{UseLemmas.{false_from_unused, unused_from_false, used_past, zero_from_unused}, VectorLemmas.numbers_below}

-- ---- of a union, by the summaries of both

-- a union is 0 where both are
used_union : (w : ℕ) (ms os ns : List ℕ) (k : ℕ) → get_or ms k 0 < 2 ^ w → get_or os k 0 < 2 ^ w
    → get_or ns k 0 < 2 ^ w → ((i : ℕ) → value_at w ns i ≡ (value_at w ms i || value_at w os i))
    → is_used ns k ≡ (is_used ms k || is_used os k)
used_union w ms os ns k small also merged each =
    grind (arith, unused_from_false w ms k small, unused_from_false w os k also, unused_from_false w ns k merged, false_from_unused w ms k, false_from_unused w os k, false_from_unused w ns k)

pub union_use : {X : Type 0} (w k : ℕ) (f : X → ℕ) (P : X → Type 0) (xs os ys xsummary osummary : List X)
    → ((x : X) → P x → f x < 2 ^ w) → All P xs → All P os → All P ys → IsSummary w f P xs xsummary
    → IsSummary w f P os osummary
    → ((i : ℕ) → value_at w (map f ys) i ≡ (value_at w (map f xs) i || value_at w (map f os) i))
    → is_used (map f ys) k ≡ (value_at w (map f xsummary) k || value_at w (map f osummary) k)
union_use w k f P xs os ys xsummary osummary below each_x each_o each_y first second each =
    used_union w (map f xs) (map f os) (map f ys) k (numbers_below w f P xs below each_x k) (numbers_below w f P os below each_o k) (numbers_below w f P ys below each_y k) each
    ∙ sym (ap₂ (λ a b. a || b) (first.digit k) (second.digit k))

-- a block of which a third takes nothing away is 0 where none of its digits is left
pub unused_from_apart : {X : Type 0} (w k : ℕ) (f : X → ℕ) (P : X → Type 0) (os : List X) (es : List ℕ)
    → ((x : X) → P x → f x < 2 ^ w) → All P os → is_used es k ≡ false
    → ((j : ℕ) → j < w → except_at (map f os) es k j ≡ false) → is_used (map f os) k ≡ false
unused_from_apart w k f P os es below each none all =
    let gone : get_or es k 0 ≡ 0 = zero_from_unused (get_or es k 0) none in
    ap (λ n. not (n == 0)) (zero_from_digits w (get_or (map f os) k 0) (numbers_below w f P os below each k) (λ j digit.
    let lacks : is_one (get_or es k 0) j ≡ false = ap (λ n. is_one n j) gone ∙ is_one-zero j in
    grind (arith, all j digit, lacks)))

-- a block that takes in one of which a third takes nothing away
used_with : (w m o e n : ℕ) → m < 2 ^ w → o < 2 ^ w → n < 2 ^ w
    → ((j : ℕ) → j < w → is_one n j ≡ (is_one m j || (is_one o j && not (is_one e j)))) → not (e == 0) ≡ false
    → not (n == 0) ≡ (not (m == 0) || not (o == 0))
used_with w m o e n small also third digits none =
    let lacks : (j : ℕ) → is_one e j ≡ false = λ j. ap (λ x. is_one x j) (zero_from_unused e none) ∙ is_one-zero j in
    let all : m ≡ 0 → o ≡ 0 → n ≡ 0 = λ first second. zero_from_digits w n third (λ j index. grind (arith, digits j index, is_one-zero)) in
    let own : n ≡ 0 → m ≡ 0 = λ zero. zero_from_digits w m small (λ j index. grind (arith, digits j index, is_one-zero)) in
    let other : n ≡ 0 → o ≡ 0 = λ zero. zero_from_digits w o also (λ j index. grind (arith, digits j index, lacks j, is_one-zero)) in
    grind (arith, nat_tests, all, own, other)

pub used_with_others : {X : Type 0} (w : ℕ) (f : X → ℕ) (P : X → Type 0) (es : List ℕ) (xs os ys : List X)
    → ((x : X) → P x → f x < 2 ^ w) → All P xs → All P os → length os ≤ length xs
    → HasMerged Union w f P 0 (length xs) (except_at (map f os) es) xs ys → (k : ℕ) → is_used es k ≡ false
    → is_used (map f ys) k ≡ (is_used (map f xs) k || is_used (map f os) k)
used_with_others w f P es xs os ys below each others fewer is k none =
    ⊎_elim
    (λ inside. used_with w (get_or (map f xs) k 0) (get_or (map f os) k 0) (get_or es k 0) (get_or (map f ys) k 0)
    (numbers_below w f P xs below each k) (numbers_below w f P os below others k) (numbers_below w f P ys below is.each k)
    (λ j index. is.digit k j (omega arith) inside index) none)
    (λ past. grind (arith, is.after k past, used_past (map f os) k, length-map))
    (cases_lt k (length xs))
