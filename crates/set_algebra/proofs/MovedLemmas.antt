-- Sets whose members all move by one distance, and the part of a set in a range.
use Rattle.std.proofs.Common.{◌≡◌, ℕ, ◌+◌, ◌-◌, ◌<◌, ◌≤◌, min, Bool, false, ◌&&◌, nat_le, List, [], ◌∷◌, ◌++◌, length, get_or, take, drop, map, replicate, refl, sym, ap, ◌∙◌, arith, length-append}
use Rattle.std.proofs.Common.{length-drop, length-take, get_or-drop, get_or-take}
use Rattle.std.proofs.{lemmas.Bool.Decides.nat_tests}
use Rattle.std.proofs.lemmas.List.{get_or-append_right, get_or-replicate, get_or_append_left, get_or_past, length-replicate}
use Rattle.bit_blocks.specs.Ranges.{in_range, values_in_range}
use Rattle.bit_blocks.specs.Bounds.{greatest}
use Rattle.set_algebra.specs.{Choices.IsGreatest, Members.HasNone, Moved.{IsLowered, IsRaised, KeepsRange, lowered, raised}, Ranges.those_in_range}
use Rattle.set_algebra.specs.Sets.{AscendsFrom, IsAscending, bound_of, elements, has, those_from}
use Rattle.set_algebra.proofs.{MemberLemmas.none_from_members, RangeLemmas.AscendsFrom-those_from, SetLaws.{bound_of-above, bound_of-least}}
use Rattle.set_algebra.proofs.SetLemmas.{AscendsFrom-lower, elements-kept, get_or_padded, has-elements, has-filter, same_members}

-- ---- up

pub has-raised : (s : List ℕ) (d n : ℕ) → has (raised s d) n ≡ (nat_le d n && has s (n - d))
has-raised [] d n = grind arith
has-raised (x ∷ xs) d n = let rest = has-raised xs d n in grind (arith, nat_tests)

AscendsFrom-raised : (low d : ℕ) (s : List ℕ) → AscendsFrom low s → AscendsFrom (low + d) (raised s d)
AscendsFrom-raised low d [] up = tt
AscendsFrom-raised low d (x ∷ xs) up = (omega (arith, up.0), AscendsFrom-lower (x + 1 + d) (x + d + 1) (raised xs d) (omega arith) (AscendsFrom-raised (x + 1) d xs up.1))

IsAscending-raised : (d : ℕ) (s : List ℕ) → IsAscending s → IsAscending (raised s d)
IsAscending-raised d s up = AscendsFrom-lower (0 + d) 0 (raised s d) (omega arith) (AscendsFrom-raised 0 d s up)

pub raised_by_members : (d : ℕ) (s t : List ℕ) → IsAscending s → IsAscending t → IsRaised s t d → t ≡ raised s d
raised_by_members d s t up other members = same_members t (raised s d) other (IsAscending-raised d s up) (λ n. members n ∙ sym (has-raised s d n))

-- one above the greatest
pub bound-raised : (d : ℕ) (s : List ℕ) (m : ℕ) → IsGreatest s m → bound_of (raised s d) ≡ m + d + 1
bound-raised d s m greatest =
    let member = has-raised s d (m + d) in
    let same = ap (has s) (let e : m + d - d ≡ m = omega arith in e) in
    let above = bound_of-above (raised s d) (m + d) (let is = greatest.0 in grind (arith, nat_tests)) in
    let least = bound_of-least (raised s d) (m + d + 1) (λ n is.
    let other = has-raised s d n in
    let below = greatest.1 (n - d) in
    grind (arith, nat_tests)) in
    omega (arith, above, least)

pub none_raised : (d : ℕ) (s : List ℕ) → HasNone s → raised s d ≡ s
none_raised d s none = let empty = none_from_members s none in ap (λ u. raised u d) empty ∙ sym empty

-- the list, which was made long enough
pub members_raised : (d n : ℕ) (bs mid new : List Bool) → bound_of (raised (elements bs) d) ≤ length bs + n
    → mid ≡ bs ++ replicate n false → new ≡ take (length mid) (replicate d false ++ mid) → IsRaised (elements bs) (elements new) d
members_raised d n bs mid new long lengthened moved i =
    let front = replicate d false in
    let size : length mid ≡ length bs + n = ap length lengthened ∙ omega (arith, length-append bs (replicate n false), length-replicate n false) in
    let own = has-elements new i in
    let is = ap (λ xs. get_or xs i false) moved in
    let cut = get_or-take (length mid) (front ++ mid) i false in
    let past = get_or_past (take (length mid) (front ++ mid)) i false in
    let short = length-take (length mid) (front ++ mid) in
    let left = get_or_append_left front mid false i in
    let right = get_or-append_right front mid d i false (length-replicate d false) in
    let zero = get_or-replicate d i false false in
    let base = ap (λ xs. get_or xs (i - d) false) lengthened ∙ get_or_padded bs n (i - d) in
    let old = has-elements bs (i - d) in
    let member = has-raised (elements bs) d i in
    let below = bound_of-above (raised (elements bs) d) i in
    grind (arith, nat_tests, length-replicate d false)

-- ---- down

pub has-lowered : (s : List ℕ) (d n : ℕ) → has (lowered s d) n ≡ has s (n + d)
has-lowered [] d n = refl
has-lowered (x ∷ xs) d n = let rest = has-lowered xs d n in grind (arith, nat_tests)

AscendsFrom-less : (low d : ℕ) (s : List ℕ) → d ≤ low → AscendsFrom low s → AscendsFrom (low - d) (map (λ n. n - d) s)
AscendsFrom-less low d [] from up = tt
AscendsFrom-less low d (x ∷ xs) from up =
    (omega (arith, up.0), AscendsFrom-lower (x + 1 - d) (x - d + 1) (map (λ n. n - d) xs) (omega (arith, up.0)) (AscendsFrom-less (x + 1) d xs (omega (arith, up.0)) up.1))

IsAscending-lowered : (d : ℕ) (s : List ℕ) → IsAscending s → IsAscending (lowered s d)
IsAscending-lowered d s up = AscendsFrom-lower (d - d) 0 (lowered s d) (omega arith) (AscendsFrom-less d d (those_from s d) (omega arith) (AscendsFrom-those_from 0 d s up))

pub lowered_by_members : (d : ℕ) (s t : List ℕ) → IsAscending s → IsAscending t → IsLowered s t d → t ≡ lowered s d
lowered_by_members d s t up other members = same_members t (lowered s d) other (IsAscending-lowered d s up) (λ n. members n ∙ sym (has-lowered s d n))

pub members_lowered : (d : ℕ) (bs new : List Bool) → new ≡ drop d bs ++ replicate (min d (length bs)) false → IsLowered (elements bs) (elements new) d
members_lowered d bs new moved i =
    has-elements new i
    ∙ ap (λ xs. get_or xs i false) moved
    ∙ get_or_padded (drop d bs) (min d (length bs)) i
    ∙ get_or-drop d bs i false
    ∙ ap (λ n. get_or bs n false) (let e : d + i ≡ i + d = omega arith in e)
    ∙ sym (has-elements bs (i + d))

-- ---- the part in a range

pub length-part : (a c : ℕ) (bs new : List Bool) → a < c → c ≤ length bs → new ≡ replicate a false ++ values_in_range a c bs → length new ≡ c
length-part a c bs new some within is =
    ap length is ∙ omega (arith, some, within, length-append (replicate a false) (values_in_range a c bs), length-replicate a false, length-take (c - a) (drop a bs), length-drop a bs)

value_in_part : (a b : ℕ) (bs : List Bool) (k : ℕ) → get_or (replicate a false ++ values_in_range a b bs) k false ≡ (in_range a b k && get_or bs k false)
value_in_part a b bs k =
    let front = replicate a false in
    let part = values_in_range a b bs in
    let left = get_or_append_left front part false k in
    let right = get_or-append_right front part a k false (length-replicate a false) in
    let zero = get_or-replicate a k false false in
    let cut = get_or-take (b - a) (drop a bs) (k - a) false in
    let past = get_or_past (take (b - a) (drop a bs)) (k - a) false in
    let short = length-take (b - a) (drop a bs) in
    let own = get_or-drop a bs (k - a) false in
    grind (arith, nat_tests, length-replicate a false)

-- those past the list are none
pub elements-part : (a b c : ℕ) (bs new : List Bool) → c ≡ min b (length bs) → new ≡ replicate a false ++ values_in_range a c bs → elements new ≡ those_in_range (elements bs) a b
elements-part a b c bs new end is = elements-kept (in_range a b) bs new (λ k.
    let value = ap (λ xs. get_or xs k false) is ∙ value_in_part a c bs k in
    let past = get_or_past bs k false in
    grind (arith, nat_tests))

pub none_in_part : (a b : ℕ) (bs : List Bool) → min b (length bs) ≤ a → [] ≡ those_in_range (elements bs) a b
none_in_part a b bs past = elements-kept (in_range a b) bs [] (λ k. let out = get_or_past bs k false in grind (arith, nat_tests))

pub members_part : (a b : ℕ) (s t : List ℕ) → t ≡ those_in_range s a b → KeepsRange s t a b
members_part a b s t is n = ap (λ u. has u n) is ∙ has-filter (in_range a b) s n
