-- Which blocks of a chunk a merge may change, by the summaries of both sides, and what the summary is then.
use Rattle.std.proofs.Common.{◌≡◌, ◌≢◌, ℕ, zero, suc, ◌+◌, ◌-◌, ◌*◌, ◌^◌, ◌<◌, ◌≤◌, ◌==◌, Bool, true, false, not, ◌&&◌, ◌||◌, List, map, length, get_or, All, refl, sym, subst, ap, ◌∙◌, arith, ⊎_elim}
use Rattle.std.{specs.Int.bit_at, proofs.lemmas.List.{get_or_past, length-map}}
use Rattle.std.proofs.lemmas.Bool.{cases_lt, cases_eq, true≢false, Decides.nat_tests}
use Rattle.bit_blocks.specs.{Digits.is_one, Lowest.{IsLowest, IsCleared}, declared.block.merge.Merge.Merge}
use Rattle.bit_blocks.specs.{Merges.merge_of_values, BlockMerges.{HasMerged, Stay}, Storage.is_used}
use Rattle.bit_blocks.proofs.{CompareLemmas.zero_from_digits, Masks.is_one-zero}

pub true_unless : (b c : Bool) → (c ≡ false → b ≡ false) → b ≡ true → c ≡ true
true_unless b true lacks is = refl
true_unless b false lacks is = absurd (true≢false (sym is ∙ lacks refl))

-- ---- taking the ones of a block one by one

-- how many of the first k digits are 1
pub ones_of_first : ℕ → ℕ → ℕ
ones_of_first m zero = 0
ones_of_first m (suc k) = bit_at m k + ones_of_first m k

same_ones : (m r k : ℕ) → ((j : ℕ) → j < k → bit_at r j ≡ bit_at m j) → ones_of_first r k ≡ ones_of_first m k
unfolding ones_of_first
same_ones m r zero same = refl
same_ones m r (suc k) same =
    let rest = same_ones m r k (λ j below. same j (omega arith)) in
    omega (arith, rest, same k (omega arith))

pub fewer_ones : (w m i r k : ℕ) → IsLowest m i → IsCleared w m i r → k ≤ w → i < k → ones_of_first r k + 1 ≡ ones_of_first m k
unfolding ones_of_first
fewer_ones w m i r zero low cleared within index = absurd (omega arith)
fewer_ones w m i r (suc k) low cleared within index =
    ⊎_elim
    (λ (here : i ≡ k).
    let rest = same_ones m r k (λ j below. cleared.kept j (omega arith) (λ e. omega (arith, e, here, below))) in
    let one : bit_at m k ≡ 1 = ap (bit_at m) (sym here) ∙ low.one in
    let none : bit_at r k ≡ 0 = ap (bit_at r) (sym here) ∙ cleared.cleared in
    omega (arith, rest, one, none))
    (λ (there : i ≢ k).
    let rest = fewer_ones w m i r k low cleared (omega arith) (omega (arith, there, index)) in
    omega (arith, rest, cleared.kept k (omega arith) (λ e. there (sym e))))
    (cases_eq i k)

-- ---- a union of a whole chunk

-- whether a block is not 0 once it took in others, where the summaries say of both whether they have a one
pub united_use : (w m n : ℕ) (own other unsure : Bool) (o : ℕ → Bool) → m < 2 ^ w → n < 2 ^ w
    → ((j : ℕ) → j < w → is_one n j ≡ (is_one m j || o j)) → own ≡ not (m == 0)
    → (other ≡ false → (j : ℕ) → o j ≡ false) → (unsure ≡ false → ((j : ℕ) → j < w → o j ≡ false) → other ≡ false)
    → ((other && not own) && unsure) ≡ false → (own || other) ≡ not (n == 0)
united_use w m n own other unsure o small also digits says zeros sure none =
    let own_kept : n ≡ 0 → m ≡ 0 = λ gone. zero_from_digits w m small (λ j index. grind (arith, digits j index, is_one-zero)) in
    let other_kept : n ≡ 0 → (j : ℕ) → j < w → o j ≡ false = λ gone j index. grind (arith, digits j index, is_one-zero) in
    let both_zero : m ≡ 0 → other ≡ false → n ≡ 0 = λ gone lacks. zero_from_digits w n also (λ j index. grind (arith, digits j index, is_one-zero, zeros lacks j)) in
    let lacked : unsure ≡ false → n ≡ 0 → other ≡ false = λ certain gone. sure certain (other_kept gone) in
    grind (arith, nat_tests, own_kept, both_zero, lacked)

-- ---- a chunk whose blocks are merged at the ones of a block

-- where none is left all of them stay
pub stay_untouched : {X : Type 0} (m : Merge) (w : ℕ) (f : X → ℕ) (q left : ℕ) (other : ℕ → ℕ → Bool) (xs : List X)
    → left ≡ 0 → ((p j : ℕ) → p < w → j < w → is_one left p ≡ false → is_one (get_or (map f xs) (q * w + p) 0) j ≡ merge_of_values m (is_one (get_or (map f xs) (q * w + p) 0) j) (other (q * w + p) j))
    → Stay m w f (q * w) ((q + 1) * w) other xs
stay_untouched m w f q left other xs none kept = record {
  digit = λ k j from below index.
      let p : ℕ = k - q * w in
      let e : q * w + p ≡ k = omega (arith, from) in
      let here = kept p j (omega (arith, below, from)) index (ap (λ n. is_one n p) none ∙ is_one-zero p) in
      subst (λ i. is_one (get_or (map f xs) i 0) j ≡ merge_of_values m (is_one (get_or (map f xs) i 0) j) (other i j)) e here;
}

-- The blocks xs of chunk q became ys at those that are no longer left, and its block of the summary is s.
pub record IsPartlyMerged {X : Type 0} (m : Merge) (w : ℕ) (f : X → ℕ) (P : X → Type 0) (q : ℕ) (other : ℕ → ℕ → Bool) (xs ys : List X) (left s : ℕ) : Type 0 where
  pub says : (p : ℕ) → p < w → is_one s p ≡ is_used (map f ys) (q * w + p)
  pub merged : (p j : ℕ) → p < w → j < w → is_one left p ≡ false → is_one (get_or (map f ys) (q * w + p) 0) j ≡ merge_of_values m (is_one (get_or (map f xs) (q * w + p) 0) j) (other (q * w + p) j)
  pub waits : (p : ℕ) → p < w → is_one left p ≡ true → get_or (map f ys) (q * w + p) 0 ≡ get_or (map f xs) (q * w + p) 0
  pub inside : (p : ℕ) → p < w → is_one left p ≡ true → q * w + p < length xs
  pub before : (k : ℕ) → k < q * w → get_or (map f ys) k 0 ≡ get_or (map f xs) k 0
  pub after : (k : ℕ) → (q + 1) * w ≤ k → get_or (map f ys) k 0 ≡ get_or (map f xs) k 0
  pub each : All P ys
  pub len : length ys ≡ length xs

module _ {X : Type 0} (m : Merge) (w : ℕ) (f : X → ℕ) (P : X → Type 0) (q : ℕ) (other : ℕ → ℕ → Bool) (xs : List X) where
  pub partly_none : (touched own : ℕ) → All P xs → ((p : ℕ) → p < w → is_one own p ≡ is_used (map f xs) (q * w + p))
      → ((p : ℕ) → p < w → is_one touched p ≡ true → q * w + p < length xs)
      → ((p j : ℕ) → p < w → j < w → is_one touched p ≡ false → is_one (get_or (map f xs) (q * w + p) 0) j ≡ merge_of_values m (is_one (get_or (map f xs) (q * w + p) 0) j) (other (q * w + p) j))
      → IsPartlyMerged m w f P q other xs xs touched own
  partly_none touched own each says within kept = record {
    says = says;
    merged = kept;
    waits = λ p index one. refl;
    inside = within;
    before = λ k early. refl;
    after = λ k late. refl;
    each = each;
    len = refl;
  }

  pub partly_more : (i left rest s t : ℕ) (ys zs : List X) → i < w → IsLowest left i → IsCleared w left i rest
      → HasMerged m w f P (q * w + i) (q * w + i + 1) other ys zs → is_one t i ≡ is_used (map f zs) (q * w + i)
      → ((p : ℕ) → p < w → p ≢ i → is_one t p ≡ is_one s p) → IsPartlyMerged m w f P q other xs ys left s
      → IsPartlyMerged m w f P q other xs zs rest t
  partly_more i left rest s t ys zs index low cleared one here there so_far =
      let same : (k : ℕ) → k ≢ q * w + i → get_or (map f zs) k 0 ≡ get_or (map f ys) k 0 =
      λ k apart. ⊎_elim (λ early. one.before k early) (λ late. one.after k (omega (arith, late, apart)))
      (cases_lt k (q * w + i)) in
      let left_there : (p : ℕ) → p < w → p ≢ i → is_one rest p ≡ is_one left p = λ p within apart. ap (λ d. d == 1) (cleared.kept p within apart) in
      let left_here : is_one left i ≡ true = ap (λ d. d == 1) low.one in
      let none_here : is_one rest i ≡ false = ap (λ d. d == 1) cleared.cleared in
      record {
        says = λ p within.
            ⊎_elim
            (λ (e : p ≡ i). ap (is_one t) e ∙ here ∙ ap (λ x. is_used (map f zs) (q * w + x)) (sym e))
            (λ (apart : p ≢ i). there p within apart ∙ so_far.says p within ∙ ap (λ n. not (n == 0)) (sym (same (q * w + p) (λ e. apart (omega (arith, e))))))
            (cases_eq p i);
        merged = λ p j within digit none.
            ⊎_elim
            (λ (e : p ≡ i). rw e (one.digit (q * w + i) j (omega arith) (omega arith) digit ∙ ap (λ n. merge_of_values m (is_one n j) (other (q * w + i) j)) (so_far.waits i index left_here)))
            (λ (apart : p ≢ i). ap (λ n. is_one n j) (same (q * w + p) (λ e. apart (omega (arith, e)))) ∙ so_far.merged p j within digit (sym (left_there p within apart) ∙ none))
            (cases_eq p i);
        waits = λ p within some.
            ⊎_elim
            (λ (e : p ≡ i). absurd (true≢false (sym some ∙ ap (is_one rest) e ∙ none_here)))
            (λ (apart : p ≢ i). same (q * w + p) (λ e. apart (omega (arith, e))) ∙ so_far.waits p within (sym (left_there p within apart) ∙ some))
            (cases_eq p i);
        inside = λ p within some.
            ⊎_elim
            (λ (e : p ≡ i). absurd (true≢false (sym some ∙ ap (is_one rest) e ∙ none_here)))
            (λ (apart : p ≢ i). so_far.inside p within (sym (left_there p within apart) ∙ some))
            (cases_eq p i);
        before = λ k early. same k (λ e. omega (arith, e, early)) ∙ so_far.before k early;
        after = λ k late. same k (λ e. omega (arith, e, late, index)) ∙ so_far.after k late;
        each = one.each;
        len = one.len ∙ so_far.len;
      }

  pub partly_all : (left s : ℕ) (ys : List X) → left ≡ 0 → IsPartlyMerged m w f P q other xs ys left s → HasMerged m w f P (q * w) ((q + 1) * w) other xs ys
  partly_all left s ys none is = record {
    digit = λ k j from below index.
        let p : ℕ = k - q * w in
        let e : q * w + p ≡ k = omega arith in
        let merged = is.merged p j (omega arith) index (ap (λ n. is_one n p) none ∙ is_one-zero p) in
        subst (λ i. is_one (get_or (map f ys) i 0) j ≡ merge_of_values m (is_one (get_or (map f xs) i 0) j) (other i j)) e merged;
    before = is.before;
    after = is.after;
    each = is.each;
    len = is.len;
  }

  -- some that stay, some chunks that were merged, and blocks past these that stay as well
  pub merged_through : (start from end : ℕ) (ys : List X) → from * w ≤ start → Stay m w f 0 start other xs
      → HasMerged m w f P (from * w) (end * w) other xs ys
      → ((k j : ℕ) → end * w ≤ k → k < length xs → j < w → is_one (get_or (map f xs) k 0) j ≡ merge_of_values m (is_one (get_or (map f xs) k 0) j) (other k j))
      → HasMerged m w f P 0 (length xs) other xs ys
  merged_through start from end ys early stay is past = record {
    digit = λ k j _ below index.
        ⊎_elim
        (λ first. ap (λ n. is_one n j) (is.before k first) ∙ stay.digit k j (omega arith) (omega arith) index)
        (λ later. ⊎_elim (λ inside. is.digit k j later inside index) (λ beyond. ap (λ n. is_one n j) (is.after k beyond) ∙ past k j beyond below index) (cases_lt k (end * w)))
        (cases_lt k (from * w));
    before = λ k none. absurd (omega arith);
    after = λ k beyond. get_or_past (map f ys) k 0 (rw length-map (omega (arith, is.len, beyond))) ∙ sym (get_or_past (map f xs) k 0 (rw length-map beyond));
    each = is.each;
    len = is.len;
  }
