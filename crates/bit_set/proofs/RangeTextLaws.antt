-- The text that is written of the runs of a set reads as just these runs.
use Rattle.std.proofs.Common.{◌≡◌, ◌≢◌, ℕ, ◌+◌, ◌-◌, ◌<◌, ◌≤◌, true, cond, eqb, List, [], ◌∷◌, ◌++◌, length, Ok, refl, sym, ap, ap₂, ◌∙◌, arith, append-nil, length-append, eq-eqb, ne_eqb, subst}
use Rattle.std.proofs.{Common.⊎_elim, lemmas.Str.Parse.{IsNumeralModel, numerals_by_value, tells_all_ascii_digits}}
use Rattle.std.proofs.lemmas.{Bool.{and_parts, cases_eq, or_right, Decides.nat_tests}, Fmt.{decimal_nonempty, digits_decimal, digits_value-decimal}, List.Elements.{All-append, All-cons, All-nil}}
use Rattle.std.specs.{Prelude.{codes, decimal}, Char.is_ascii_digit, List.{All, flat_map}, Str.all_ascii_digits, Str.Parse.digits_value}
use Rattle.std.specs.declared.ops.Range.{Range}
use Rattle.bit_words.specs.Bounds.{greatest}
use Rattle.bit_blocks.specs.Ranges.{in_range}
use Rattle.set_algebra.specs.{Runs.{AreApartFrom, in_ranges, runs_of}, Sets.{IsAscending, has}}
use Rattle.bit_set.specs.{RangeReading.{before_ranges, items_of, number_of, range_between, range_of, ranges_in, ranges_of}, RangeTexts.{ranges_text, run_text}}
use Rattle.set_algebra.proofs.RunLemmas.{runs_are}
use Rattle.bit_set.proofs.RangeTextLemmas.{ends_alone, ends_apart, more_items, one_item}

own : IsNumeralModel (λ ds. all_ascii_digits ds ≡ true) (digits_value 10)
own = numerals_by_value (λ ds. all_ascii_digits ds ≡ true) tells_all_ascii_digits

number_of-decimal : (n : ℕ) → n < greatest → number_of (decimal n) ≡ Ok n
number_of-decimal n small =
    let digits = digits_decimal own n (omega (arith, small)) in
    let value = digits_value-decimal own n (omega (arith, small)) in
    let some = decimal_nonempty n (omega (arith, small)) in
    grind (arith, nat_tests, digits, value, some)

-- no digit is a comma or a hyphen
digits_lack : (byte : ℕ) (ds : List ℕ) → byte < 48 → all_ascii_digits ds ≡ true → All (λ b. b ≢ byte) ds
digits_lack byte [] low digits = All-nil (λ b. b ≢ byte)
digits_lack byte (d ∷ ds) low digits =
    let parts : (is_ascii_digit d ≡ true) × (all_ascii_digits ds ≡ true) = and_parts (is_ascii_digit d) (all_ascii_digits ds) digits in
    All-cons (λ b. b ≢ byte) d ds (λ same. let digit = parts.0 in grind (arith, nat_tests, digit, same, low)) (digits_lack byte ds low parts.1)

decimal_lacks : (byte n : ℕ) → byte < 48 → n < greatest → All (λ b. b ≢ byte) (decimal n)
decimal_lacks byte n low small = digits_lack byte (decimal n) low (digits_decimal own n (omega (arith, small)))

-- ---- a run

between : (a c b : ℕ) → a ≤ c → c + 1 ≡ b → range_between (Ok a) (Ok c) ≡ Ok (record { start = a; end = b })
between a c b le next = grind (arith, nat_tests, le, next)

module _ (a b : ℕ) (some : a < b) (within : b ≤ greatest) where
  alone_text : a + 1 ≡ b → run_text (record { start = a; end = b }) ≡ decimal a
  alone_text alone = ap (λ x. decimal a ++ cond x [] (codes "-" ++ decimal (b - 1))) (eq-eqb (a + 1) b alone) ∙ append-nil (decimal a)

  longer_text : a + 1 ≢ b → run_text (record { start = a; end = b }) ≡ decimal a ++ 45 ∷ decimal (b - 1)
  longer_text longer = ap (λ x. decimal a ++ cond x [] (codes "-" ++ decimal (b - 1))) (ne_eqb (a + 1) b longer)

  reads_back : range_of (run_text (record { start = a; end = b })) ≡ Ok (record { start = a; end = b })
  reads_back =
      let small : a < greatest = omega (arith, some, within) in
      let also : b - 1 < greatest = omega (arith, some, within) in
      let first = number_of-decimal a small in
      let lacks = decimal_lacks 45 a (omega arith) small in
      ⊎_elim
      (λ (alone : a + 1 ≡ b). ap range_of (alone_text alone) ∙ ends_alone (decimal a) lacks ∙ ap₂ range_between first first ∙ between a a b (omega arith) alone)
      (λ (longer : a + 1 ≢ b). ap range_of (longer_text longer) ∙ ends_apart (decimal a) (decimal (b - 1)) lacks
      ∙ ap₂ range_between first (number_of-decimal (b - 1) also) ∙ between a (b - 1) b (omega (arith, some)) (omega (arith, some)))
      (cases_eq (a + 1) b)

  text_lacks : All (λ x. x ≢ 44) (run_text (record { start = a; end = b }))
  text_lacks =
      let first = decimal_lacks 44 a (omega arith) (omega (arith, some, within)) in
      ⊎_elim
      (λ (alone : a + 1 ≡ b). subst (All (λ x. x ≢ 44)) (sym (alone_text alone)) first)
      (λ (longer : a + 1 ≢ b). subst (All (λ x. x ≢ 44)) (sym (longer_text longer)) (All-append (λ x. x ≢ 44) (decimal a) (45 ∷ decimal (b - 1)) first
      (All-cons (λ x. x ≢ 44) 45 (decimal (b - 1)) (λ same. omega (arith, same)) (decimal_lacks 44 (b - 1) (omega arith) (omega (arith, some, within))))))
      (cases_eq (a + 1) b)

-- ---- the runs

last_within : (low : ℕ) (r : Range ℕ) (rs : List (Range ℕ)) → AreApartFrom low (r ∷ rs) → ((n : ℕ) → in_ranges (r ∷ rs) n ≡ true → n < greatest) → r.end ≤ greatest
last_within low r rs apart small = let last = small (r.end - 1) (grind (arith, nat_tests, apart.1)) in omega (arith, last)

texts : (low : ℕ) (r : Range ℕ) (rs : List (Range ℕ)) → AreApartFrom low (r ∷ rs) → ((n : ℕ) → in_ranges (r ∷ rs) n ≡ true → n < greatest) → ranges_of (items_of (ranges_text (r ∷ rs))) ≡ Ok (r ∷ rs)
texts low r [] apart small =
    let within = last_within low r [] apart small in
    ap (λ t. ranges_of (items_of t)) (append-nil (run_text r)) ∙ ap ranges_of (one_item (run_text r) (text_lacks r.start r.end apart.1 within))
    ∙ ap (λ x. before_ranges x (Ok [])) (reads_back r.start r.end apart.1 within)
texts low r (q ∷ qs) apart small =
    let within = last_within low r (q ∷ qs) apart small in
    let others = texts (r.end + 1) q qs apart.2 (λ n is. small n (or_right (in_range r.start r.end n) (in_ranges (q ∷ qs) n) is)) in
    ap ranges_of (more_items (run_text r) (32 ∷ ranges_text (q ∷ qs)) (text_lacks r.start r.end apart.1 within)) ∙ ap₂ before_ranges (reads_back r.start r.end apart.1 within) others

some_read : (text : List ℕ) → 0 < length text → ranges_in text ≡ ranges_of (items_of text)
some_read [] some = absurd (omega (arith, some))
some_read (b ∷ bs) some = refl

whole : (rs : List (Range ℕ)) → AreApartFrom 0 rs → ((n : ℕ) → in_ranges rs n ≡ true → n < greatest) → ranges_in (ranges_text rs) ≡ Ok rs
whole [] apart small = refl
whole (r ∷ rs) apart small =
    let within = last_within 0 r rs apart small in
    let first = decimal_nonempty r.start (omega (arith, apart.1, within)) in
    let behind = flat_map (λ q. codes ", " ++ run_text q) rs in
    let some : 0 < length (run_text r ++ behind) = omega (
      arith,
      first,
      length-append (run_text r) behind,
      length-append (decimal r.start) (cond (eqb (r.start + 1) r.end) [] (codes "-" ++ decimal (r.end - 1))),
    ) in
    some_read (ranges_text (r ∷ rs)) some ∙ texts 0 r rs apart small

pub text_of_runs : (s : List ℕ) → IsAscending s → ((n : ℕ) → has s n ≡ true → n < greatest) → ranges_in (ranges_text (runs_of s)) ≡ Ok (runs_of s)
text_of_runs s up small = let are = runs_are s up in whole (runs_of s) are.apart (λ n is. small n (sym (are.members n) ∙ is))
