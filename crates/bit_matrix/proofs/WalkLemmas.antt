-- The walk over a row: where it begins, and what it has left.
use Rattle.std.proofs.Common.{◌≡◌, ℕ, ◌+◌, ◌-◌, ◌*◌, ◌/◌, ◌%◌, ◌^◌, ◌<◌, ◌≤◌, true, false, ◌&&◌, nat_le, List, [], ◌∷◌, ◌++◌}
use Rattle.std.proofs.Common.{All, length, map, get_or, drop, refl, sym, ap, ap₂, ◌∙◌, arith, mul-le-mul_right, inl, inr}
use Rattle.std.proofs.{Common.{zero, suc, mod-lt, subst}, iter.runs.Sources.{from_front, as_is}}
use Rattle.std.proofs.lemmas.{Bool.{cases_lt, true≢false, Decides.nat_tests}, Nat.{div-add-mod', le-div}}
use Rattle.std.{specs.Iterator.Runs.YieldsInOrder, proofs.lemmas.List.{get_or-drop, length-drop, length-map, drop_all}}
use Rattle.std.proofs.lemmas.List.Elements.{All-drop, All-head, All-nil, All-tail}
use Rattle.bit_blocks.specs.{Digits.is_one, Lowest.{IsCleared, IsLowest}, Storage.value_at}
use Rattle.bit_blocks.proofs.{BitsLemmas.block_past, StorageLemmas.{value_at-index, value_at-past}}
use Rattle.bit_set.specs.{Indexes.{digits_from, indexes, values_in}, Sets.{IsAscending, has}}
use Rattle.bit_set.proofs.IndexLemmas.{AscendsFrom-indexes, indexes-lowest, indexes-none, length-indexes-le}
use Rattle.bit_set.proofs.{IndexLemmas.{length-values_in, value_in}, RetainLemmas.below_by_members}
use Rattle.bit_set.proofs.SetLemmas.{AscendsFrom-lower, has-below, has-elements_from}
use Rattle.bit_set.proofs.WalkLemmas.{CanWalk-moved, CanWalk-taken, indexes-pulled, pulled_along}
use Rattle.bit_matrix.specs.Walks.{AdvancesInRow, IsRowWalk}

-- each call gives the first of what is left
pub runs_of_row : YieldsInOrder AdvancesInRow (λ (left : List ℕ). left)
runs_of_row p s = as_is p p.from (from_front AdvancesInRow (λ x. x) (λ (left : List ℕ). left) (λ s t h. ap length h.item.0) (λ s x t h. h.item) p s)

-- the maps of what is past some
map-dropped : {X : Type 0} (f : X → ℕ) (n : ℕ) (xs : List X) → map f (drop n xs) ≡ drop n (map f xs)
map-dropped f zero xs = refl
map-dropped f (suc n) [] = refl
map-dropped f (suc n) (x ∷ xs) = map-dropped f n xs

-- a bit that is 1 is in some block
below_end : (w : ℕ) (ms : List ℕ) (n count : ℕ) → 0 < w → length ms ≡ count → count * w < 2 ^ 64 → value_at w ms n ≡ true → n < 2 ^ 64 - 1
below_end w ms n count pos long fits one = elim (cases_lt n (count * w)) [
  | inl below ↦ omega (arith, below, fits)
  | inr past ↦ absurd (true≢false (sym one ∙ value_at-past w ms n (let block = block_past w count n pos past in omega (arith, long, block))))
]

-- what is left of a block m of which `first` are passed, and of the blocks past it
has-left : (w index m : ℕ) (ms : List ℕ) (q j : ℕ) → j < w → has (indexes w index m (values_in w ms)) (index + (q * w + j)) ≡ is_one (get_or (m ∷ ms) q 0) j
unfolding indexes
has-left w index m ms q j inside = has-elements_from index (values_in w (m ∷ ms)) (q * w + j) ∙ value_in w (m ∷ ms) q j inside

has-left_before : (w index m : ℕ) (ms : List ℕ) (n : ℕ) → n < index → has (indexes w index m (values_in w ms)) n ≡ false
has-left_before w index m ms n before = has-below index (indexes w index m (values_in w ms)) n (AscendsFrom-indexes w index m (values_in w ms)) before

module _ (w from first m : ℕ) (ms : List ℕ) (pos : 0 < w) (at : first ≡ from / w) (digits : (j : ℕ) → j < w → is_one m j ≡ (nat_le (from - first * w) j && is_one (get_or ms first 0) j)) where
  left_digit : (n q j : ℕ) → j < w → n ≡ first * w + (q * w + j) → from ≡ first * w + from % w → from % w < w
      → is_one (get_or (m ∷ drop (first + 1) ms) q 0) j ≡ (nat_le from n && is_one (get_or ms (first + q) 0) j)
  left_digit n zero j inside here start rest =
      let e : n ≡ first * w + j = omega (arith, here) in
      let same : nat_le (from - first * w) j ≡ nat_le from n = grind (arith, nat_tests) in
      digits j inside ∙ ap₂ (λ b k. b && is_one (get_or ms k 0) j) same (let e : first ≡ first + zero = omega arith in e)
  left_digit n (suc p) j inside here start rest =
      let one = mul-le-mul_right w (let e : 1 ≤ suc p = omega arith in e) in
      let past : from ≤ n = omega (arith, here, start, rest, one) in
      let yes : nat_le from n ≡ true = grind (arith, nat_tests) in
      ap (λ x. is_one x j) (get_or-drop (first + 1) ms p 0
      ∙ ap (λ k. get_or ms k 0) (let e : first + 1 + p ≡ first + suc p = omega arith in e))
      ∙ ap (λ b. b && is_one (get_or ms (first + suc p) 0) j) (sym yes)

  pub left_members : (n : ℕ) → has (indexes w (first * w) m (values_in w (drop (first + 1) ms))) n ≡ (nat_le from n && value_at w ms n)
  left_members n =
      let split = div-add-mod' from w in
      let start : from ≡ first * w + from % w = omega (arith, split, ap (λ k. k * w) at) in
      let rest = mod-lt from pos in
      elim (cases_lt n (first * w)) [
        | inl before ↦ has-left_before w (first * w) m (drop (first + 1) ms) n before ∙ grind (arith, nat_tests)
        | inr past ↦
            let k = n - first * w in
            let parts = div-add-mod' k w in
            let inside = mod-lt k pos in
            let here : n ≡ first * w + (k / w * w + k % w) = omega (arith, parts, past) in
            let value : value_at w ms n ≡ is_one (get_or ms (first + k / w) 0) (k % w) =
            ap (value_at w ms) (let e : n ≡ (first + k / w) * w + k % w = omega (arith, here) in e)
            ∙ value_at-index w ms (first + k / w) (k % w) inside in
            ap (has (indexes w (first * w) m (values_in w (drop (first + 1) ms)))) here
            ∙ has-left w (first * w) m (drop (first + 1) ms) (k / w) (k % w) inside
            ∙ left_digit n (k / w) (k % w) inside (here) start rest
            ∙ ap (λ b. nat_le from n && b) (sym value)
      ]

  pub left_ascends : IsAscending (indexes w (first * w) m (values_in w (drop (first + 1) ms)))
  left_ascends = AscendsFrom-lower (first * w) 0 (indexes w (first * w) m (values_in w (drop (first + 1) ms))) (omega arith) (AscendsFrom-indexes w (first * w) m (values_in w (drop (first + 1) ms)))

-- the walk that begins in block `first`
pub begun : {X : Type 0} (w : ℕ) (number : X → ℕ) (is_block : X → Type 0) (xs rest : List X) (from first : ℕ) (block : X)
    → 0 < w → first ≡ from / w → first < length xs → length xs * w < 2 ^ 64 → All is_block xs → is_block block
    → rest ≡ drop (first + 1) xs
    → ((j : ℕ) → j < w → is_one (number block) j ≡ (nat_le (from - first * w) j && is_one (get_or (map number xs) first 0) j))
    → IsRowWalk w number is_block rest block (first * w) × ((n : ℕ)
    → has (indexes w (first * w) (number block) (values_in w (map number rest))) n ≡ (nat_le from n && value_at w
    (map number xs) n)) × IsAscending (indexes w (first * w) (number block) (values_in w (map number rest)))
begun w number is_block xs rest from first block pos at within fits each lawful is digits =
    let ms = map number xs in
    let past : map number rest ≡ drop (first + 1) ms = ap (map number) is ∙ map-dropped number (first + 1) xs in
    let left = indexes w (first * w) (number block) (values_in w (map number rest)) in
    let same = ap (λ zs. indexes w (first * w) (number block) (values_in w zs)) past in
    let members = λ (n : ℕ). ap (λ zs. has zs n) same ∙ left_members w from first (number block) ms pos at digits n in
    let count : length rest + (first + 1) ≡ length xs = omega (arith, ap length is, length-drop (first + 1) xs, within) in
    let long = length-values_in w (map number rest) ∙ ap (λ n. n * w) (length-map rest number) in
    let room : first * w + w + length rest * w ≡ length xs * w = (let e : first * w + w + length rest * w ≡ (length rest + (first + 1)) * w = omega arith in e) ∙ ap (λ n. n * w) count in (
      record {
        in_hand = lawful;
        each = subst (All is_block) (sym is) (All-drop is_block (first + 1) xs each);
        can = record {
          long = long;
          fits = omega (arith, room, fits);
          below = below_by_members (2 ^ 64 - 1) left (λ n is_in. below_end w ms n (length xs) pos (length-map xs number) fits (let both = members n in grind (arith, nat_tests)));
          count_fits = omega (arith, length-indexes-le w (first * w) (number block) (values_in w (map number rest)), long, room, fits);
        };
      },
      members,
      subst IsAscending (sym same) (left_ascends w from first (number block) ms pos at digits),
    )

le_times : (w from count : ℕ) → 0 < w → count ≤ from / w → count * w ≤ from
le_times w from count pos past = let product = mul-le-mul_right w past in let parts = div-add-mod' from w in omega (arith, product, parts)

-- the walk that begins past the blocks
pub none_begun : {X : Type 0} (w : ℕ) (number : X → ℕ) (is_block : X → Type 0) (xs rest : List X) (from : ℕ) (block : X)
    → 0 < w → length xs ≤ from / w → is_block block → number block ≡ 0 → rest ≡ drop (length xs) xs
    → IsRowWalk w number is_block rest block 0 × ((n : ℕ)
    → has (indexes w 0 (number block) (values_in w (map number rest))) n ≡ (nat_le from n && value_at w (map number xs) n))
    × IsAscending (indexes w 0 (number block) (values_in w (map number rest)))
none_begun w number is_block xs rest from block pos past lawful zeros is =
    let none : rest ≡ [] = is ∙ drop_all (length xs) xs (omega arith) in
    let nothing : indexes w 0 (number block) (values_in w (map number rest)) ≡ [] = ap (λ ys. indexes w 0 (number block) (values_in w (map number ys))) none ∙ indexes-none w 0 (number block) zeros in
    let count = ap length none in (
      record {
        in_hand = lawful;
        each = subst (All is_block) (sym none) (All-nil is_block);
        can = record {
          long = length-values_in w (map number rest) ∙ ap (λ n. n * w) (length-map rest number);
          fits = let product : w * length rest ≡ w * 0 = ap (λ n. w * n) count in omega (arith, product);
          below = subst (All (λ n. n < 2 ^ 64 - 1)) (sym nothing) (All-nil (λ n. n < 2 ^ 64 - 1));
          count_fits = let e = ap length nothing in omega (arith, e);
        };
      },
      λ n. ap (λ ys. has ys n) nothing ∙ (let beyond = λ (reached : from ≤ n). value_at-past w (map number xs) n
          (let e = length-map xs number in
          let le = le-div (length xs) n w pos (let up = le_times w from (length xs) pos past in omega (arith, up, reached)) in
          omega (arith, e, le)) in grind (arith, nat_tests)),
      subst IsAscending (sym nothing) tt,
    )

-- a block of zeros is passed
pub row_next : {X : Type 0} (w : ℕ) (number : X → ℕ) (is_block : X → Type 0) (xs rest : List X) (block x : X) (index : ℕ)
    → IsRowWalk w number is_block xs block index → number block ≡ 0 → xs ≡ x ∷ rest
    → IsRowWalk w number is_block rest x (index + w) × (indexes w (index + w) (number x) (values_in w (map number rest)) ≡ indexes w index (number block) (values_in w (map number xs)))
row_next w number is_block xs rest block x index walk zeros is =
    let values : values_in w (map number xs) ≡ digits_from (number x) 0 w ++ values_in w (map number rest) = ap (λ ys. values_in w (map number ys)) is in
    let same = sym (indexes-pulled w index (number block) (number x) (values_in w (map number xs)) (values_in w (map number rest)) zeros values) in
    let each = subst (All is_block) is walk.each in (
      record {
        in_hand = All-head is_block x rest each;
        each = All-tail is_block x rest each;
        can = CanWalk-moved w index (index + w) (number block) (number x) _ _ walk.can
            (length-values_in w (map number rest) ∙ ap (λ n. n * w) (length-map rest number))
            (pulled_along index w (length rest) (length xs) (let e = ap length is in omega (arith, e))) same;
      },
      same,
    )

-- the lowest 1 of the block in hand is taken
pub row_taken : {X : Type 0} (w : ℕ) (number : X → ℕ) (is_block : X → Type 0) (xs : List X) (block left : X) (index i : ℕ)
    → IsRowWalk w number is_block xs block index → is_block left → IsLowest (number block) i → i < w
    → IsCleared w (number block) i (number left)
    → IsRowWalk w number is_block xs left index × (index + i < 2 ^ 64 - 1)
    × (indexes w index (number block) (values_in w (map number xs)) ≡ (index + i) ∷ indexes w index (number left)
    (values_in w (map number xs)))
row_taken w number is_block xs block left index i walk lawful low within cleared =
    let taken = CanWalk-taken w index (number block) (number left) i _ walk.can low within cleared in
    (record { in_hand = lawful; each = walk.each; can = taken.0 }, taken.1, indexes-lowest w index (number block) (number left) i (values_in w (map number xs)) low within cleared)
