-- How the text of ranges is read: its digits, its items, and what each adds to a set.
use Rattle.std.{proofs.Math.Bool.or-false, specs.{Str.{all_ascii_digits, Parse.digits_value}, declared.ops.Range.Range}}
use Rattle.std.proofs.Common.{◌≡◌, ◌≢◌, ℕ, zero, suc, ◌+◌, ◌-◌, ◌*◌, ◌^◌, ◌<◌, ◌≤◌, max, min, nat_le, nat_lt, Bool, true, false, ◌&&◌, ◌||◌, cond, eqb, List, [], ◌∷◌, ◌++◌, length, map, take, get_or}
use Rattle.std.proofs.Common.{Option, Some, None, Result, Ok, Err, refl, sym, ap, subst, ◌∙◌, arith, ne_eqb, eq-eqb, ⊎_elim}
use Rattle.std.proofs.lemmas.{Bool.{and_parts, cases_eq, false≢true, Decides.nat_tests}, Int.Digits.digits_value_more, Str.digit_value_digit}
use Rattle.std.proofs.lemmas.List.{Elements.{All-head, All-tail, All-weaker}, Splits.{length-slice_split, slice_split_at, slice_split_none}}
use Rattle.std.specs.{Borrow.Bor, Prelude.{IfNone, IfSome, MatchOption, ⊤}, Option.option_map_or, Result.{is_ok, result_unwrap_or}, Char.{IsAsciiDigit, is_ascii_digit}, List.{All, slice_split}}
use Rattle.bit_words.specs.Bounds.{greatest}
use Rattle.bit_set.specs.RangeReading.{IsRangesFault, before_ranges, cut_at, end_of, items_left, items_of, number_of, range_between, range_of, ranges_in, ranges_of, without_space, without_spaces}
use Rattle.set_algebra.specs.{Members.{HasNone, UpdatesRange}, Ranges.span_end, Runs.in_ranges, Sets.has}
use Rattle.bit_set.specs.declared.range_texts.RangesError.{RangesError, TheVariants.{Memory, Number, Text}}

-- ---- numbers

pub all_digits_more : (ds : List ℕ) (i : ℕ) → i < length ds → all_ascii_digits (take i ds) ≡ true → is_ascii_digit (get_or ds i 0) ≡ true → all_ascii_digits (take (suc i) ds) ≡ true
all_digits_more [] i below so_far digit = absurd (omega arith)
all_digits_more (d ∷ ds) zero below so_far digit = rw digit
all_digits_more (d ∷ ds) (suc i) below so_far digit =
    let parts : (is_ascii_digit d ≡ true) × (all_ascii_digits (take i ds) ≡ true) = and_parts (is_ascii_digit d) (all_ascii_digits (take i ds)) so_far in
    rw (parts.0, all_digits_more ds i (omega arith) parts.1 digit)

not_all_digits : (ds : List ℕ) (i : ℕ) → i < length ds → is_ascii_digit (get_or ds i 0) ≡ false → all_ascii_digits ds ≡ false
not_all_digits [] i below other = absurd (omega arith)
not_all_digits (d ∷ ds) zero below other = rw other refl
not_all_digits (d ∷ ds) (suc i) below other = let rest = not_all_digits ds i (omega arith) other in grind (arith, rest)

pub number_of-other : (ds : List ℕ) (i : ℕ) → i < length ds → is_ascii_digit (get_or ds i 0) ≡ false → number_of ds ≡ Err Text
number_of-other ds i below other = let no = not_all_digits ds i below other in grind (arith, nat_tests, no)

-- one more digit, where the greatest stands for that or more
pub saturated_more : (ds : List ℕ) (i number ten next : ℕ) → i < length ds → IsAsciiDigit (get_or ds i 0) → number ≡ min (digits_value 10 (take i ds)) (2 ^ 64 - 1)
    → ten ≡ min (number * 10) (2 ^ 64 - 1) → next ≡ min (ten + (get_or ds i 0 - 48)) (2 ^ 64 - 1) → next ≡ min (digits_value 10 (take (i + 1) ds)) (2 ^ 64 - 1)
saturated_more ds i number ten next below digit so_far tens more =
    omega (arith, digits_value_more 10 ds i below, digit_value_digit (get_or ds i 0) digit, so_far, tens, more)

-- ---- items

pub cut_at-none : (byte : ℕ) (text : List ℕ) → All (λ b. b ≢ byte) text → cut_at byte text ≡ None
cut_at-none byte [] lacks = refl
cut_at-none byte (b ∷ bs) lacks = rw (ne_eqb b byte (All-head (λ x. x ≢ byte) b bs lacks), cut_at-none byte bs (All-tail (λ x. x ≢ byte) b bs lacks)) refl

pub cut_at-first : (byte : ℕ) (front rest : List ℕ) → All (λ b. b ≢ byte) front → cut_at byte (front ++ byte ∷ rest) ≡ Some (front, rest)
cut_at-first byte [] rest lacks = rw (eq-eqb byte byte refl) refl
cut_at-first byte (b ∷ bs) rest lacks = rw (ne_eqb b byte (All-head (λ x. x ≢ byte) b bs lacks), cut_at-first byte bs rest (All-tail (λ x. x ≢ byte) b bs lacks)) refl

-- behind a space that is taken off, the text has the same items
after_parts : (b : ℕ) (bs : List ℕ) (parts : List (List ℕ)) → slice_split (λ x. eqb x 44) bs ≡ parts → map without_space (slice_split (λ x. eqb x 44) (b ∷ bs)) ≡ items_of (without_space (b ∷ bs))
after_parts b bs [] e = absurd (omega (arith, ap length e, length-slice_split (λ x. eqb x 44) bs))
after_parts b bs (p ∷ ps) e =
    ⊎_elim
    (λ (comma : b ≡ 44). rw (comma, e) refl)
    (λ (other : b ≢ 44).
    let parts : slice_split (λ x. eqb x 44) (b ∷ bs) ≡ (b ∷ p) ∷ ps = rw (ne_eqb b 44 other, e) refl in
    ⊎_elim (λ (space : b ≡ 32). rw (space, e) refl)
    (λ (neither : b ≢ 32).
    let no_space = ne_eqb b 32 neither in
    ap (map without_space) parts
    ∙ ap (λ x. cond x p (b ∷ p) ∷ map without_space ps) no_space
    ∙ sym (ap without_spaces parts)
    ∙ ap (λ x. items_of (cond x bs (b ∷ bs))) (sym no_space)) (cases_eq b 32))
    (cases_eq b 44)

items_after : (rest : List ℕ) → map without_space (slice_split (λ b. eqb b 44) rest) ≡ items_of (without_space rest)
items_after [] = refl
items_after (b ∷ bs) = after_parts b bs (slice_split (λ x. eqb x 44) bs) refl

pub one_item : (text : List ℕ) → All (λ b. b ≢ 44) text → items_of text ≡ text ∷ []
one_item text lacks = ap without_spaces (slice_split_none (λ b. eqb b 44) text (All-weaker (λ b. b ≢ 44) (λ b. eqb b 44 ≡ false) (λ b other. ne_eqb b 44 other) text lacks))

pub more_items : (front rest : List ℕ) → All (λ b. b ≢ 44) front → items_of (front ++ 44 ∷ rest) ≡ front ∷ items_of (without_space rest)
more_items front rest lacks =
    ap without_spaces (slice_split_at (λ b. eqb b 44) front 44 rest (All-weaker (λ b. b ≢ 44) (λ b. eqb b 44 ≡ false) (λ b other. ne_eqb b 44 other) front lacks) (eq-eqb 44 44 refl))
    ∙ ap (λ items. front ∷ items) (items_after rest)

-- ---- the range of an item

pub ends_alone : (item : List ℕ) → All (λ b. b ≢ 45) item → range_of item ≡ range_between (number_of item) (number_of item)
ends_alone item lacks = rw (cut_at-none 45 item lacks) refl

pub ends_apart : (first last : List ℕ) → All (λ b. b ≢ 45) first → range_of (first ++ 45 ∷ last) ≡ range_between (number_of first) (number_of last)
ends_apart first last lacks = rw (cut_at-first 45 first last lacks) refl

-- ---- the ranges, one after another

same_ok : {T : Type 0} (r : Result T RangesError) (x y : T) → r ≡ Ok x → r ≡ Ok y → x ≡ y
same_ok r x y one two = ap (λ s. result_unwrap_or s x) (sym one ∙ two)

not_ok : {T : Type 0} (r : Result T RangesError) (e : RangesError) (x : T) → r ≡ Err e → r ≡ Ok x → ⊥
not_ok r e x one two = false≢true (ap is_ok (sym one ∙ two))

-- where all items are read, the first is, and the others are
first_read : (a : Result (Range ℕ) RangesError) (b : Result (List (Range ℕ)) RangesError) (rs : List (Range ℕ))
    → before_ranges a b ≡ Ok rs
    → (r : Range ℕ) × (others : List (Range ℕ)) × (a ≡ Ok r) × (b ≡ Ok others) × (rs ≡ r ∷ others)
first_read (Err e) b rs is = absurd (not_ok (Err e) e rs refl is)
first_read (Ok r) (Err e) rs is = absurd (not_ok (Err e) e rs refl is)
first_read (Ok r) (Ok others) rs is = (r, others, refl, refl, same_ok (Ok (r ∷ others)) rs (r ∷ others) is refl)

-- `end` is that of the ranges before these items of the text
pub EndsAt : List ℕ → List (List ℕ) → ℕ → Type 0
EndsAt text items end = record {
  fault : (e : RangesError) → ranges_of items ≡ Err e → ranges_in text ≡ Err e;
  ranges : (rs : List (Range ℕ)) → ranges_of items ≡ Ok rs
      → (all : List (Range ℕ)) × (ranges_in text ≡ Ok all) × (end_of all ≡ max end (end_of rs));
}

pub ends_none : EndsAt [] [] 0
unfolding EndsAt
ends_none = record { fault = λ e is. is; ranges = λ rs is. (rs, is, omega arith) }

pub ends_text : (text : List ℕ) → text ≢ [] → EndsAt text (items_of text) 0
unfolding EndsAt
ends_text [] some = absurd (some refl)
ends_text (b ∷ bs) some = record { fault = λ e is. is; ranges = λ rs is. (rs, is, omega arith) }

pub ends_fault : (text item : List ℕ) (items : List (List ℕ)) (end : ℕ) (e : RangesError)
    → EndsAt text (item ∷ items) end → range_of item ≡ Err e → ranges_in text ≡ Err e
unfolding EndsAt
ends_fault text item items end e ends is = ends.fault e (rw is refl)

pub ends_more : (text item : List ℕ) (items : List (List ℕ)) (end : ℕ) (r : Range ℕ)
    → EndsAt text (item ∷ items) end → range_of item ≡ Ok r → EndsAt text items (max end r.end)
unfolding EndsAt
ends_more text item items end r ends is = record {
  fault = λ e others. ends.fault e (rw (is, others) refl);
  ranges = λ rs others. let all = ends.ranges (r ∷ rs) (rw (is, others) refl) in (all.0, all.1, omega (arith, all.2));
}

pub ends_all : (text : List ℕ) (end : ℕ) → EndsAt text [] end
    → (rs : List (Range ℕ)) × (ranges_in text ≡ Ok rs) × (end ≡ end_of rs)
unfolding EndsAt
ends_all text end ends = let all = ends.ranges [] refl in (all.0, all.1, omega (arith, all.2))

-- where the items begin
pub ends_first : (text : List ℕ) (rest : Option (Bor (List ℕ)))
    → IfSome rest (λ items. (items.now ≡ text) × (text ≢ [])) → IfNone rest (text ≡ [])
    → EndsAt text (items_left rest) 0
ends_first text None some none = subst (λ t. EndsAt t [] 0) (sym none) ends_none
ends_first text (Some items) some none = subst (λ t. EndsAt text (items_of t) 0) (sym some.0) (ends_text text some.1)

-- ---- the ranges that are put in, one after another

-- these items of the text are left to be put into the set s, whose list has length len
pub Fills : List ℕ → List (List ℕ) → ℕ → List ℕ → Type 0
Fills text items len s = record {
  left : List (Range ℕ);
  reads : ranges_of items ≡ Ok left;
  within : end_of left ≤ len;
  members : (all : List (Range ℕ)) → ranges_in text ≡ Ok all → (n : ℕ)
      → in_ranges all n ≡ (has s n || in_ranges left n);
}

pub fills_none : (len : ℕ) (s : List ℕ) → HasNone s → Fills [] [] len s
unfolding Fills
fills_none len s none = record {
  left = [];
  reads = refl;
  within = omega arith;
  members = λ all is n. rw (none n) (ap (λ rs. in_ranges rs n) (same_ok (Ok []) all [] is refl));
}

pub fills_text : (text : List ℕ) (len : ℕ) (s : List ℕ) → HasNone s → text ≢ [] → (rs : List (Range ℕ))
    → ranges_in text ≡ Ok rs → end_of rs ≤ len → Fills text (items_of text) len s
unfolding Fills
fills_text [] len s none some rs is within = absurd (some refl)
fills_text (b ∷ bs) len s none some rs is within = record {
  left = rs;
  reads = is;
  within = within;
  members = λ all also n. rw (none n) (ap (λ xs. in_ranges xs n) (same_ok (ranges_in (b ∷ bs)) all rs also is));
}

-- the range of the first item, which fits
pub fills_first : (text item : List ℕ) (items : List (List ℕ)) (len : ℕ) (s : List ℕ)
    → Fills text (item ∷ items) len s → (r : Range ℕ) × (range_of item ≡ Ok r) × (r.end ≤ len)
unfolding Fills
fills_first text item items len s fills =
    let parts = first_read (range_of item) (ranges_of items) fills.left fills.reads in
    (parts.0, parts.2, omega (arith, ap end_of parts.4, fills.within))

-- so it needs no growth
pub fills_end : (text item : List ℕ) (items : List (List ℕ)) (len : ℕ) (s : List ℕ) (r : Range ℕ)
    → Fills text (item ∷ items) len s → range_of item ≡ Ok r → span_end r.start r.end ≤ len
fills_end text item items len s r fills is =
    let first = fills_first text item items len s fills in
    let same : first.0 ≡ r = same_ok (range_of item) first.0 r first.1 is in
    let end : r.end ≤ len = omega (arith, ap (λ x. x.end) same, first.2) in
    grind (arith, nat_tests)

pub fills_more : (text item : List ℕ) (items : List (List ℕ)) (len : ℕ) (s t : List ℕ) (r : Range ℕ)
    → Fills text (item ∷ items) len s → range_of item ≡ Ok r → UpdatesRange (λ _. true) s t r.start r.end
    → Fills text items len t
unfolding Fills
fills_more text item items len s t r fills is put =
    let parts = first_read (range_of item) (ranges_of items) fills.left fills.reads in
    let same : parts.0 ≡ r = same_ok (range_of item) parts.0 r parts.2 is in
    record {
      left = parts.1;
      reads = parts.3;
      within = omega (arith, ap end_of parts.4, fills.within);
      members = λ all also n.
          fills.members all also n ∙ ap (λ rs. has s n || in_ranges rs n) (parts.4 ∙ ap (λ x. x ∷ parts.1) same)
          ∙ grind (arith, put n);
    }

pub fills_all : (text : List ℕ) (len : ℕ) (s : List ℕ) → Fills text [] len s → (rs : List (Range ℕ))
    → ranges_in text ≡ Ok rs → (n : ℕ) → has s n ≡ in_ranges rs n
unfolding Fills
fills_all text len s fills rs is n =
    let none : fills.left ≡ [] = same_ok (Ok []) fills.left [] fills.reads refl in
    sym (fills.members rs is n ∙ ap (λ xs. has s n || in_ranges xs n) none ∙ or-false (has s n))

pub fills_first_items : (text : List ℕ) (rest : Option (Bor (List ℕ))) (len : ℕ) (s : List ℕ) → HasNone s
    → (rs : List (Range ℕ)) × (ranges_in text ≡ Ok rs) × (end_of rs ≤ len)
    → IfSome rest (λ items. (items.now ≡ text) × (text ≢ [])) → IfNone rest (text ≡ [])
    → Fills text (items_left rest) len s
fills_first_items text None len s empty reads some none = subst (λ t. Fills t [] len s) (sym none)
    (fills_none len s empty)
fills_first_items text (Some items) len s empty reads some none = subst (λ t. Fills text (items_of t) len s)
    (sym some.0) (fills_text text len s empty some.1 reads.0 reads.1 reads.2)

pub next_items : (t item : List ℕ) (rest : Option (Bor (List ℕ))) → MatchOption rest (items_of t ≡ item ∷ []) (λ r. items_of t ≡ item ∷ items_of r.now) → items_of t ≡ item ∷ items_left rest
next_items t item None is = is
next_items t item (Some r) is = is

-- ---- faults

-- the fault is one of the text
abbrev IsOfText : {T : Type 0} → Result T RangesError → Type 0
IsOfText (Ok x) = ⊤
IsOfText (Err Text) = ⊤
IsOfText (Err Number) = ⊤
IsOfText (Err (Memory fault)) = ⊥

of_either : {T : Type 0} (test : Bool) (r s : Result T RangesError) → IsOfText r → IsOfText s → IsOfText (cond test r s)
of_either true r s one other = one
of_either false r s one other = other

of_number : (digits : List ℕ) → IsOfText (number_of digits)
of_number digits =
    let value = digits_value 10 digits in
    of_either (nat_lt 0 (length digits) && all_ascii_digits digits)
    (cond (nat_lt value greatest) (Ok value) (Err Number)) (Err Text)
    (of_either (nat_lt value greatest) (Ok value) (Err Number) tt tt) tt

of_between : (a b : Result ℕ RangesError) → IsOfText a → IsOfText b → IsOfText (range_between a b)
of_between (Err Text) b first last = tt
of_between (Err Number) b first last = tt
of_between (Err (Memory fault)) b first last = absurd first
of_between (Ok m) (Err Text) first last = tt
of_between (Ok m) (Err Number) first last = tt
of_between (Ok m) (Err (Memory fault)) first last = absurd last
of_between (Ok m) (Ok n) first last = of_either (nat_le m n) (Ok (record { start = m; end = n + 1 })) (Err Text) tt tt

of_parts : (item : List ℕ) (parts : Option (List ℕ × List ℕ))
    → IsOfText (option_map_or (λ p. range_between (number_of p.0) (number_of p.1)) parts
    (range_between (number_of item) (number_of item)))
of_parts item None = of_between _ _ (of_number item) (of_number item)
of_parts item (Some parts) = of_between _ _ (of_number parts.0) (of_number parts.1)

of_before : (a : Result (Range ℕ) RangesError) (b : Result (List (Range ℕ)) RangesError) → IsOfText a → IsOfText b
    → IsOfText (before_ranges a b)
of_before (Err Text) b first rest = tt
of_before (Err Number) b first rest = tt
of_before (Err (Memory fault)) b first rest = absurd first
of_before (Ok r) (Err Text) first rest = tt
of_before (Ok r) (Err Number) first rest = tt
of_before (Ok r) (Err (Memory fault)) first rest = absurd rest
of_before (Ok r) (Ok rs) first rest = tt

of_items : (items : List (List ℕ)) → IsOfText (ranges_of items)
of_items [] = tt
of_items (item ∷ items) = of_before (range_of item) (ranges_of items) (of_parts item (cut_at 45 item)) (of_items items)

of_text : (text : List ℕ) → IsOfText (ranges_in text)
of_text [] = tt
of_text (b ∷ bs) = of_items (items_of (b ∷ bs))

pub fault_is : (text : List ℕ) (e : RangesError) → ranges_in text ≡ Err e → IsRangesFault text e
fault_is text Text is = is
fault_is text Number is = is
fault_is text (Memory fault) is = absurd (subst IsOfText is (of_text text))
