-- Lemmas on the JSON form: the members of an object, the numbers of an array, and what a value spells.
use Rattle.std.proofs.Common.{◌≡◌, ◌≢◌, ◌==◌, ◌↔◌, ℕ, ◌+◌, ◌-◌, ◌*◌, ◌/◌, ◌%◌, ◌^◌, ◌<◌, Bool, false, true, codes, is_some, List, [], ◌∷◌, length, map, get_or, All, Option, Some, None, IsTrue}
use Rattle.std.proofs.Common.{option_map, option_and_then, refl, sym, ap, ◌∙◌, pow_pos, unwrap_or, ok_or, Err, arith}
use Rattle.std.proofs.lemmas.{List.{length-map, get_or-map, ext_get_or, Elements.{All-nil, All-cons, All-head, All-tail, All-map, All-weaker, All-from_get_or}}, Bool.Decides.nat_tests}
use Rattle.std.proofs.lemmas.{Nat.Bits.bit_at-zero}
use Rattle.std.proofs.{lemmas.{Nat.Bits.same_from_bits_below, Option.same_Some}, Math.Nat.{div-add-mod', mod-lt}}
use Rattle.serde_json.specs.{Data.{Data, array, member, no_members, number, object, unsigned}, Events.members_len, View.{view, items_of, items_view, members_view}, declared.value.Value.Value}
use Rattle.serde_json.{specs.Find.as_object, proofs.Views.{Entry, members_len-members_view}}
use Rattle.bit_blocks.{specs.{Bits.{blocks_for, blocks_of}, Digits.IsShiftedRight}, proofs.BitsLemmas.{blocks_of-lt, length-blocks_of}}
use Rattle.bit_set.proofs.{IndexLemmas.values_in-blocks_of, FilledLemmas.blocks_of_zero_tail}
use Rattle.bit_set.specs.{declared.json.JsonError.JsonError, Json.{HasNumbers, HasZeroTail, IsFault, IsFirstFault, Spells, members_in}}
use Rattle.bit_set.specs.{Json.{number_in, numbers_in, bit_vec_in, storage_in, nbits_in}, Entries.{AreNumbers, AreParts, HasLength, IsEntry, number_of_entry, numbers_of}}

-- ---- the shape

-- an object with some members, and a count of them
pub members_counted : (d : Data) (es : List Entry) (n count : ℕ) → n ≡ length es → Some (members_view es) ≡ as_object d → IsTrue (n == count) ↔ (members_in d ≡ Some count)
members_counted d es n count many is =
    let e : members_in d ≡ Some n = ap (option_map members_len) (sym is) ∙ ap Some (members_len-members_view es ∙ sym many) in
    grind (arith, nat_tests)

-- ---- the numbers

pub numbers_in-entries : (w : ℕ) (vs : List Value) → All (IsEntry w) vs → numbers_in (items_view vs) ≡ Some (numbers_of vs)
numbers_in-entries w [] each = refl
numbers_in-entries w (v ∷ vs) each =
    let here = All-head (IsEntry w) v vs each in
    rw (here.number, numbers_in-entries w vs (All-tail (IsEntry w) v vs each)) refl

both_some : (o : Option ℕ) (p : Option (List ℕ)) (ms : List ℕ) → option_and_then (λ m. option_map (λ ns. m ∷ ns) p) o ≡ Some ms → (m : ℕ) × (ns : List ℕ) × (o ≡ Some m) × (p ≡ Some ns) × (ms ≡ m ∷ ns)
both_some o p ms h = grind arith

-- where an array has numbers, each below 2 ^ w, they are those of its entries
pub entries-numbers_in : (w : ℕ) (vs : List Value) (ms : List ℕ) → numbers_in (items_view vs) ≡ Some ms → All (λ m. m < 2 ^ w) ms → All (IsEntry w) vs
entries-numbers_in w [] ms is below = All-nil (IsEntry w)
entries-numbers_in w (v ∷ vs) ms is below =
    let (m, ns, here, later, parts) = both_some (number_in (view v)) (numbers_in (items_view vs)) ms is in
    let each : All (λ n. n < 2 ^ w) (m ∷ ns) = rw parts at below in
    All-cons (IsEntry w) v vs (record { number = rw here refl; below = rw here (All-head (λ n. n < 2 ^ w) m ns each) })
    (entries-numbers_in w vs ns later (All-tail (λ n. n < 2 ^ w) m ns each))

pub below_of_entries : (w : ℕ) (vs : List Value) → All (IsEntry w) vs → All (λ m. m < 2 ^ w) (numbers_of vs)
below_of_entries w vs each = All-map (λ m. m < 2 ^ w) number_of_entry vs (All-weaker (IsEntry w) (λ v. number_of_entry v < 2 ^ w) (λ v is. is.below) vs each)

pub has_numbers : (w : ℕ) (d nbits : Data) (vs : List Value) (n : ℕ) → AreParts d (items_view vs) nbits → HasLength w vs nbits n → HasNumbers w d (numbers_of vs) n
has_numbers w d nbits vs n parts is = record {
  blocks = ap (option_and_then numbers_in) parts.at_storage ∙ numbers_in-entries w vs is.entries;
  length = ap (option_and_then number_in) parts.at_nbits ∙ is.length;
  below = below_of_entries w vs is.entries;
}

pub no_numbers : (w : ℕ) (d nbits : Data) (vs : List Value) → AreParts d (items_view vs) nbits → ((n : ℕ) → ¬ HasLength w vs nbits n) → (ms : List ℕ) (n : ℕ) → ¬ HasNumbers w d ms n
no_numbers w d nbits vs parts none ms n is =
    none n (record {
      entries = entries-numbers_in w vs ms (sym (ap (option_and_then numbers_in) parts.at_storage) ∙ is.blocks) is.below;
      length = sym (ap (option_and_then number_in) parts.at_nbits) ∙ is.length;
    })

-- what `ok_or` makes a fault of
pub was_none : {A E : Type 0} (o : Option A) (e d : E) → Err d ≡ ok_or o e → (o ≡ None) × (d ≡ e)
was_none o e d h = grind arith

pub counted : (vs : List Value) → length (numbers_of vs) ≡ length vs
counted vs = simp length-map

-- the number of the entry at an index
pub number_at : (vs : List Value) (k : ℕ) (v : Value) (m : ℕ) → k < length vs → v ≡ get_or vs k v → number_in (view v) ≡ Some m → m ≡ get_or (numbers_of vs) k 0
number_at vs k v m within at is =
    sym (ap (λ o. unwrap_or o 0) is) ∙ ap number_of_entry at ∙ sym (get_or-map number_of_entry vs k v 0 within)

-- ---- the last block

-- where a block is not full, there is a last one
pub blocks_for_some : (w n c : ℕ) → n % w ≢ 0 → c ≡ blocks_for w n → c - 1 < c
blocks_for_some w n c part count = omega arith

-- a last block that is not full is 0 past the length just where nothing is left of it once its used digits are
-- shifted out
pub zero_tail_by_shift : (w n r : ℕ) (ms : List ℕ) → 0 < w → n % w ≢ 0 → length ms ≡ blocks_for w n
    → r < 2 ^ w → IsShiftedRight w (get_or ms (length ms - 1) 0) (n % w) r → (r ≡ 0) ↔ HasZeroTail w ms n
zero_tail_by_shift w n r ms pos part count small shifted =
    let used = mod-lt n pos in
    let split = div-add-mod' n w in
    let at : length ms - 1 ≡ n / w = omega arith in
    let before : (length ms - 1) * w ≡ n / w * w = ap (λ q. q * w) at in (
      λ none. record {
        tail = λ j within past. let moved = shifted.moved (j - n % w) in grind (arith, bit_at-zero (j - n % w));
      },
      λ zero_tail. same_from_bits_below w r 0 small (pow_pos w) (λ i within.
          let moved = shifted.moved i in
          let zeros = shifted.zeros i within in
          let tail = zero_tail.tail (i + n % w) in
          grind (arith, bit_at-zero i)),
    )

-- a last block that is full has no tail
pub zero_tail_full : (w n : ℕ) (ms : List ℕ) → n % w ≡ 0 → length ms ≡ blocks_for w n → HasZeroTail w ms n
zero_tail_full w n [] full count = record { tail = λ j _ _. bit_at-zero j }
zero_tail_full w n (m ∷ ms) full count =
    let split = div-add-mod' n w in
    let at : length (m ∷ ms) - 1 + 1 ≡ n / w = omega (arith, count, full) in
    let whole : (length (m ∷ ms) - 1 + 1) * w ≡ n / w * w = ap (λ q. q * w) at in
    record { tail = λ j within past. absurd (omega (arith, split, whole, full, within, past)) }

-- a test for zero, where just what is zero has the property
pub tail_test : {A : Type 0} (t e : Bool) (r z : ℕ) → t ≡ e → (e ≡ true) ↔ (r ≡ z) → z ≡ 0 → (r ≡ 0) ↔ A → IsTrue t ↔ A
tail_test t e r z is same zero tail = (λ yes. tail.0 (same.0 (sym is ∙ yes) ∙ zero), λ a. is ∙ same.1 (tail.1 a ∙ sym zero))

-- ---- one value has one reading, and one fault at most

pub same_numbers : (w : ℕ) (d : Data) (ms ns : List ℕ) (m n : ℕ) → HasNumbers w d ms m → HasNumbers w d ns n → (ms ≡ ns) × (m ≡ n)
same_numbers w d ms ns m n one other = (same_Some ms ns (sym one.blocks ∙ other.blocks), same_Some m n (sym one.length ∙ other.length))

-- what spells something has no fault
pub spelt_has_no_fault : (w : ℕ) (d : Data) (ms : List ℕ) (n : ℕ) (fault : JsonError) → Spells w d ms n → ¬ IsFirstFault w d fault
spelt_has_no_fault w d ms n fault spelt h = grind (arith, same_numbers)

-- and what has a fault has no other
pub one_fault : (w : ℕ) (d : Data) (a b : JsonError) → IsFirstFault w d a → IsFirstFault w d b → a ≡ b
one_fault w d a b h k = grind (arith, same_numbers)

-- so it is why there is no set
pub fault_of_first : (w : ℕ) (d : Data) (fault : JsonError) → IsFirstFault w d fault → IsFault w d fault
fault_of_first w d fault h = grind arith

-- the blocks of a list of truth values and its length fix it
pub values_from_blocks : (w : ℕ) (a b : List Bool) → 0 < w → blocks_of w a ≡ blocks_of w b → length a ≡ length b → a ≡ b
values_from_blocks w a b pos same long =
    ext_get_or false a b long (λ k within. let here = values_in-blocks_of w a pos k in let there = values_in-blocks_of w b pos k in cc)

pub one_list : (w : ℕ) (d : Data) (a b : List Bool) → 0 < w → Spells w d (blocks_of w a) (length a) → Spells w d (blocks_of w b) (length b) → a ≡ b
one_list w d a b pos one other =
    let same = same_numbers w d (blocks_of w a) (blocks_of w b) (length a) (length b) one.numbers other.numbers in
    values_from_blocks w a b pos same.0 same.1

-- ---- what is written spells what it was written of

numbers_in-numbers : (ms : List ℕ) → numbers_in (items_of (map (λ m. number (unsigned m)) ms)) ≡ Some ms
numbers_in-numbers [] = refl
numbers_in-numbers (m ∷ ms) = ap (option_map (λ ns. m ∷ ns)) (numbers_in-numbers ms)

pub written_spells : (w : ℕ) (d : Data) (vs : List Value) (ms : List ℕ) (values : List Bool) (n : ℕ) → ms ≡ blocks_of w values → n ≡ length values → AreNumbers ms vs
    → d ≡ object (member (codes "bit_vec") (object (member (codes "nbits") (number (unsigned n)) (member (codes "storage") (array (items_view vs)) no_members))) no_members)
    → Spells w d (blocks_of w values) (length values)
written_spells w d vs ms values n same long are form = record {
  shape = record {
    one = ap members_in form;
    two = ap (λ x. option_and_then members_in (bit_vec_in x)) form;
    storage = ap (λ x. is_some (storage_in x)) form;
    nbits = ap (λ x. is_some (nbits_in x)) form;
  };
  numbers = record {
    blocks = ap (λ x. option_and_then numbers_in (storage_in x)) form ∙ ap (λ ds. numbers_in (items_of ds)) are ∙ numbers_in-numbers ms ∙ ap Some same;
    length = ap (λ x. option_and_then number_in (nbits_in x)) form ∙ ap Some long;
    below = All-from_get_or (λ m. m < 2 ^ w) (blocks_of w values) 0 (λ k within. blocks_of-lt w k values);
  };
  count = length-blocks_of w values;
  zero_tail = blocks_of_zero_tail w values;
}
