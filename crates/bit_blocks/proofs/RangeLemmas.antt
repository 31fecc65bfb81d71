-- What a change of a range does to the value at every index.
use Rattle.std.proofs.Common.{◌≡◌, ℕ, zero, suc, ◌-◌, ◌<◌, ◌≤◌, max, Bool, true, false, cond, List, [], ◌∷◌, ◌++◌, length, get_or, take, drop, map, refl, ap, ◌∙◌, arith, ⊎_elim, length-take}
use Rattle.std.proofs.Common.{length-drop, length-append, get_or-take, get_or-drop}
use Rattle.std.proofs.lemmas.{Bool.{cases_lt, Decides.nat_tests}, List.{get_or_append_left, get_or-append_right, get_or-map, length-map, take-append-drop}}
use Rattle.bit_blocks.specs.{declared.block.merge.Merge.Merge, BlockMerges.IsMergedSpan, Merges.merge_of_values, Ranges.{changed_in_range, in_range}, Storage.values_of}
use Rattle.bit_blocks.proofs.StorageLemmas.{get_or-values_of, length-values_of, values_of-same}

-- ---- the changed list

none_taken : (f : Bool → Bool) (n : ℕ) (xs : List Bool) → n ≡ 0 → map f (take n xs) ≡ []
none_taken f zero [] none = refl
none_taken f zero (x ∷ xs) none = refl
none_taken f (suc n) xs none = absurd (omega arith)

-- where the range has no index nothing changed
pub changed-none : (f : Bool → Bool) (a b : ℕ) (bs : List Bool) → b ≤ a → changed_in_range f a b bs ≡ bs
changed-none f a b bs none =
    let rest : max a b ≡ a = omega arith in
    ap (λ xs. take a bs ++ (xs ++ drop (max a b) bs)) (none_taken f (b - a) (drop a bs) (omega arith)) ∙ ap (λ n. take a bs ++ drop n bs) rest ∙ take-append-drop a bs

length-changed_some : (f : Bool → Bool) (a b : ℕ) (bs : List Bool) → a ≤ b → b ≤ length bs → length (changed_in_range f a b bs) ≡ length bs
length-changed_some f a b bs le within =
    omega (arith, length-append (take a bs) (map f (take (b - a) (drop a bs)) ++ drop (max a b) bs), length-append (map f (take (b - a) (drop a bs))) (drop (max a b) bs), length-take a bs, length-map {B = Bool} (take (b - a) (drop a bs)), length-take (b - a) (drop a bs), length-drop a bs, length-drop (max a b) bs)

pub length-changed : (f : Bool → Bool) (a b : ℕ) (bs : List Bool) → (a < b → b ≤ length bs) → length (changed_in_range f a b bs) ≡ length bs
length-changed f a b bs within =
    ⊎_elim (λ some. length-changed_some f a b bs (omega (arith, some)) (within some)) (λ (none : b ≤ a). ap length (changed-none f a b bs none)) (cases_lt a b)

get_or-changed_some : (f : Bool → Bool) (a b : ℕ) (bs : List Bool) (i : ℕ) → a ≤ b → b ≤ length bs
    → get_or (changed_in_range f a b bs) i false ≡ cond (in_range a b i) (f (get_or bs i false)) (get_or bs i false)
get_or-changed_some f a b bs i le within =
    let mid : List Bool = map f (take (b - a) (drop a bs)) in
    let rest : List Bool = drop (max a b) bs in
    let front : length (take a bs) ≡ a = omega (arith, length-take a bs) in
    let count : length (take (b - a) (drop a bs)) ≡ b - a = omega (arith, length-take (b - a) (drop a bs), length-drop a bs) in
    let long : length mid ≡ b - a = omega (arith, length-map {B = Bool} (take (b - a) (drop a bs))) in
    let one = get_or_append_left (take a bs) (mid ++ rest) false i in
    let past = get_or-append_right (take a bs) (mid ++ rest) a i false front in
    let two = get_or_append_left mid rest false (i - a) in
    let three = get_or-append_right mid rest (b - a) (i - a) false long in
    grind (arith, nat_tests, get_or-take a bs i false, get_or-map f (take (b - a) (drop a bs)) (i - a) false false, get_or-take (b - a) (drop a bs) (i - a) false, get_or-drop a bs (i - a) false, get_or-drop (max a b) bs (i - a - (b - a)) false)

pub get_or-changed : (f : Bool → Bool) (a b : ℕ) (bs : List Bool) (i : ℕ) → (a < b → b ≤ length bs)
    → get_or (changed_in_range f a b bs) i false ≡ cond (in_range a b i) (f (get_or bs i false)) (get_or bs i false)
get_or-changed f a b bs i within =
    ⊎_elim
    (λ some. get_or-changed_some f a b bs i (omega (arith, some)) (within some))
    (λ (none : b ≤ a). ap (λ xs. get_or xs i false) (changed-none f a b bs none) ∙ grind (arith, nat_tests, none))
    (cases_lt a b)

-- ---- the list of blocks that were merged with a span

pub values_of-changed : (m : Merge) (f : Bool → Bool) (w a b n : ℕ) (ms ns : List ℕ) → ((x : Bool) → merge_of_values m x true ≡ f x) → b ≤ n → IsMergedSpan m w a b ms ns
    → values_of w ns n ≡ changed_in_range f a b (values_of w ms n)
values_of-changed m f w a b n ms ns same within is =
    let long = length-values_of w ms n in
    values_of-same w ns n _ (length-changed f a b (values_of w ms n) (λ _. omega arith) ∙ long) (λ i below.
    grind (arith, nat_tests, get_or-changed f a b (values_of w ms n) i (λ _. omega arith), get_or-values_of w ms n i false below, is.inside i, is.before i, is.after i, same))
