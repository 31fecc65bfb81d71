-- How many blocks and how much capacity a set takes.
use Rattle.std.proofs.Common.{◌≡◌, ℕ, ◌+◌, ◌-◌, ◌<◌, ◌≤◌, ◌↔◌, max, Bool, true, nat_lt, if◌then◌else◌, All, IsTrue, List, [], ◌∷◌, length, slice_get, Some, refl, ap, ◌∙◌, arith, mul-le-mul_right, Ok}
use Rattle.std.proofs.Common.{Err}
use Rattle.std.proofs.lemmas.{List.Elements.{All-nil, All-cons, All-head, All-tail}, Bool.Decides.nat_tests}
use Rattle.bit_blocks.{specs.Bits.{Bits, blocks_for, capacity_of, true_end, whole_blocks}, proofs.BitsLemmas.{blocks_for-le, blocks_for-least, blocks_for-enough}}
use Rattle.bit_words.{specs.Growth.Grows, proofs.CapacityLemmas.whole_blocks-fits}
use Rattle.set_algebra.{specs.Sets.{elements, elements_from, bound_of}, proofs.{SetLaws.slice_get-elements, SetLemmas.{IsAscending-elements, same_members}}}
use Rattle.bit_set.specs.{Capacity.{IsPastBlocks, Run}, declared.faults.SetError.{SetError, TheVariants.{Element, Length, Memory}}}

-- more values take no less capacity
capacity_of-grows : (w m n : ℕ) → 0 < w → m ≤ n → capacity_of w (blocks_for w m) ≤ capacity_of w (blocks_for w n)
capacity_of-grows w m n pos le = let more = mul-le-mul_right w (blocks_for-le w m n pos le) in omega (arith, more)

-- an item past the blocks of a list is past those of a shorter one
pub past_fewer_blocks : (fault : SetError) (w m n item : ℕ) → 0 < w → m ≤ n → IsPastBlocks fault w n item → IsPastBlocks fault w m item
past_fewer_blocks Element w m n item pos le past = tt
past_fewer_blocks Length w m n item pos le past = tt
past_fewer_blocks (Memory fault) w m n item pos le past = omega (arith, past, capacity_of-grows w m n pos le)

-- capacity for a length, asked for as what is missing past the list
pub capacity_for_length : (w old new long len missing : ℕ) → 0 < w → missing ≡ len - long → long ≤ old → (long + missing ≤ old → new ≡ old)
    → new ≡ max old (capacity_of w (blocks_for w (long + missing))) → new ≡ max old (capacity_of w (blocks_for w len))
capacity_for_length w old new long len missing pos is below within exact = let grows = capacity_of-grows w len long pos in grind arith

-- lists with the same true values keep one set
pub elements-true_values : (bs cs : List Bool) → ((i : ℕ) → (slice_get cs i ≡ Some true) ↔ (slice_get bs i ≡ Some true)) → elements cs ≡ elements bs
elements-true_values bs cs same =
    same_members (elements cs) (elements bs) (IsAscending-elements cs) (IsAscending-elements bs)
    (λ n. let here = same n in let old = slice_get-elements bs n in let new = slice_get-elements cs n in grind arith)

-- ---- how far a list is true

bound-from : (index : ℕ) (bs : List Bool) → bound_of (elements_from index bs) ≡ (if nat_lt 0 (true_end bs) then index + true_end bs else 0)
bound-from index [] = refl
bound-from index (b ∷ bs) = let rest = bound-from (index + 1) bs in grind (arith, nat_tests)

-- a list is true as far as its set goes
pub true_end-bound : (bs : List Bool) → true_end bs ≡ bound_of (elements bs)
true_end-bound bs = let bound = bound-from 0 bs in grind (arith, nat_tests)

-- the empty set takes no blocks
pub whole_blocks-empty : (w : ℕ) (bs : List Bool) → 0 < w → elements bs ≡ [] → whole_blocks w bs ≡ 0
whole_blocks-empty w bs pos none =
    let ends = true_end-bound bs ∙ ap bound_of none in
    let least = blocks_for-least w (true_end bs) 0 pos (omega arith) in
    whole_blocks-fits w 0 bs (omega arith) (omega arith) ∙ omega arith

-- ---- growths

-- the capacity was there
pub Grows-there : {T E : Type 0} (n : ℕ) (x : T) (old new : Bits) → n ≤ old.capacity → length old.values ≤ old.capacity → new.capacity ≡ old.capacity → Grows {E = E} n (Ok x) old new
Grows-there n x old new enough holds same = grind arith

-- what changes after the growth keeps the capacity
pub Grows-changed : {T E U F : Type 0} (n : ℕ) (x : T) (y : U) (old mid new : Bits) → new.capacity ≡ mid.capacity → Grows {E = E} n (Ok x) old mid → Grows {E = F} n (Ok y) old new
Grows-changed n x y old mid new same grows = grind arith

-- the same failure, as another error
pub Grows-failed : {T E U F : Type 0} (n : ℕ) (e : E) (f : F) (old new : Bits) → Grows {T = T} n (Err e) old new → Grows {T = U} n (Err f) old new
Grows-failed n e f old new grows = grind arith

-- ---- runs of calls

-- calls that need no more capacity than there is go through, and leave it
pub runs-within : (capacity old new : ℕ) (calls : List (ℕ × Bool)) → capacity ≤ old → All (λ call. call.0 ≤ capacity) calls → Run old calls new → All (λ call. IsTrue call.1) calls × (new ≡ old)
runs-within capacity old new [] enough each run = (All-nil _, run)
runs-within capacity old new (call ∷ calls) enough each run =
    let needed = All-head (λ (c : ℕ × Bool). c.0 ≤ capacity) call calls each in
    let here = run.1 (omega (arith, needed)) in
    let rest = runs-within capacity run.0 new calls (omega (arith, here.1)) (All-tail (λ (c : ℕ × Bool). c.0 ≤ capacity) call calls each) run.2 in
    (All-cons (λ (c : ℕ × Bool). IsTrue c.1) call calls here.0 rest.0, rest.1 ∙ here.1)

-- the laws of `src/laws.rt` by these
pub ruleset shrunk_lengths = (true_end-bound, blocks_for-enough, blocks_for-least)
