-- Squares of bits that are exchanged, one pair after another, until all in a strip are transposed.
use Rattle.std.proofs.Common.{◌≡◌, ◌≢◌, ℕ, ◌+◌, ◌-◌, ◌*◌, ◌/◌, ◌%◌, ◌<◌, ◌≤◌, ◌==◌, ◌⊎◌, Bool, true, false, ◌&&◌, ◌||◌, nat_lt, List, get_or, refl, sym, ap, ap₂, ◌∙◌, arith, inl, inr}
use Rattle.std.proofs.lemmas.Bool.{cases_eq, cases_lt, eq-eqb, ne_eqb, true≢false, Decides.nat_tests}
use Rattle.std.proofs.lemmas.Nat.{div-add-mod', div-mul-add, div_below, mod-mul-add, mod_below, mul-add-lt, mul-le, row_fits}
use Rattle.std.proofs.{Math.Nat.{add-mul, mul_assoc, mul_comm}, lemmas.Nat.same_from_place}
use Rattle.bit_blocks.specs.Digits.{is_one}
use Rattle.bit_matrix.specs.Squares.{AreExchanged, ArePairsExchanged, AreSquaresExchanged, IsExchanged, IsTransposedStrip, digit_in, index_of}

-- ---- indexes

-- an index in a later square of the group
pub moved_by : (s n h a b x : ℕ) → a ≤ b → index_of s n h a x + (b - a) * s ≡ index_of s n h b x
moved_by s n h a b x order =
    let parts = add-mul (h * n + a) (b - a) s in
    let sum : h * n + a + (b - a) ≡ h * n + b = omega (arith, order) in
    let whole = ap (λ k. k * s) sum in
    omega (arith, parts, whole)

-- indexes that are the same have the same parts
pub same_parts : (s n h k a b x y : ℕ) → a < n → b < n → x < s → y < s → index_of s n h a x ≡ index_of s n k b y → (h ≡ k) × (a ≡ b) × (x ≡ y)
same_parts s n h k a b x y within also inside too e =
    let low = same_from_place (h * n + a) x (k * n + b) y s inside too e in
    let high = same_from_place h a k b n within also low.0 in
    (high.0, high.1, low.1)

-- a row outside those of a place
pub outside : (r t q stride : ℕ) → q < stride → r ≢ t → (r * stride + q < t * stride) ⊎ (t * stride + stride ≤ r * stride + q)
outside r t q stride below other = elim (cases_lt r t) [
  | inl before ↦ let fits = row_fits r stride t stride before (omega arith) in inl (omega (arith, fits, below))
  | inr after ↦ let fits = row_fits t stride r stride (omega (arith, after, other)) (omega arith) in inr (omega (arith, fits))
]

module _ (w s n : ℕ) (some : 0 < s) (many : 0 < n) (whole : w % (n * s) ≡ 0) where
  abbrev groups : ℕ
  groups = w / (n * s)

  pub all_groups : w ≡ groups * n * s
  all_groups = let parts = div-add-mod' w (n * s) in let e = mul_assoc groups n s in omega (arith, parts, whole, e)

  -- each square has an n-th of the indexes
  pub in_square : w / n ≡ groups * s
  in_square =
      let e : w ≡ groups * s * n + 0 = all_groups ∙ mul_assoc groups n s ∙ ap (λ k. groups * k) (mul_comm n s) ∙ sym (mul_assoc groups s n) ∙ omega arith in
      ap (λ k. k / n) e ∙ div-mul-add (groups * s) n 0 many

  pub index_within : (h a x : ℕ) → h < groups → a < n → x < s → index_of s n h a x < w
  index_within h a x group square inside =
      let row = row_fits h n groups n group (omega arith) in
      let below = mul-add-lt (h * n + a) s x (groups * n) (omega (arith, row, square)) inside in
      let e = mul_comm s (groups * n) in
      omega (arith, below, e, all_groups)

  pub group_below : (i : ℕ) → i < w / n → i / s < groups
  group_below i inside = div_below i s groups some (omega (arith, inside, in_square))

  pub place_below : (h x : ℕ) → h < groups → x < s → h * s + x < w / n
  place_below h x group inside = let below = mul-add-lt h s x groups group inside in let e = mul_comm s groups in omega (arith, below, e, in_square)

-- The rows of two squares that go together are in the strip, the lower one past the upper.
pub record AreTogether (w s n i a b stride : ℕ) : Type 0 where
  pub upper : index_of s n (i / s) a (i % s) < w
  pub lower : index_of s n (i / s) b (i % s) < w
  pub is : index_of s n (i / s) a (i % s) + (b - a) * s ≡ index_of s n (i / s) b (i % s)
  pub apart : index_of s n (i / s) a (i % s) * stride + stride ≤ (index_of s n (i / s) a (i % s) + (b - a) * s) * stride
  pub fits : (index_of s n (i / s) a (i % s) + (b - a) * s) * stride + stride ≤ w * stride

pub together : (w s n i a b stride : ℕ) → 0 < s → w % (n * s) ≡ 0 → i < w / n → a < b → b < n → AreTogether w s n i a b stride
together w s n i a b stride some whole inside order square =
    let many : 0 < n = omega (arith, square) in
    let first = index_of s n (i / s) a (i % s) in
    let group = group_below w s n some many whole i inside in
    let lower = index_within w s n some many whole (i / s) b (i % s) group square (mod_below i s some) in
    let is = moved_by s n (i / s) a b (i % s) (omega (arith, order)) in
    let more = mul-le 1 s (b - a) s (omega (arith, order)) (omega arith) in
    record {
      upper = index_within w s n some many whole (i / s) a (i % s) group (omega (arith, order, square)) (mod_below i s some);
      lower = lower;
      is = is;
      apart = row_fits first stride (first + (b - a) * s) stride (omega (arith, more, some)) (omega arith);
      fits = row_fits (first + (b - a) * s) stride w stride (omega (arith, is, lower)) (omega arith);
    }

-- the square that an index is in
pub square_of : (s n h a x : ℕ) → a < n → x < s → index_of s n h a x / s % n ≡ a
square_of s n h a x within inside = ap (λ k. k % n) (div-mul-add (h * n + a) s x inside) ∙ mod-mul-add h n a within

-- ---- the rows of two squares in each group

-- So many rows of square a are exchanged with those of square b, and the other rows stay.
pub record AreRowsExchanged (w stride s n a b left right count : ℕ) (ms ns : List ℕ) : Type 0 where
  pub each : (m q : ℕ) → m < count → q < stride
      → IsExchanged w ((b - a) * s) left right (get_or ms (index_of s n (m / s) a (m % s) * stride + q) 0)
      (get_or ms (index_of s n (m / s) b (m % s) * stride + q) 0)
      (get_or ns (index_of s n (m / s) a (m % s) * stride + q) 0) (get_or ns (index_of s n (m / s) b (m % s) * stride + q) 0)
  pub others : (r q : ℕ) → q < stride → ((m : ℕ) → m < count
      → (r ≢ index_of s n (m / s) a (m % s)) × (r ≢ index_of s n (m / s) b (m % s)))
      → get_or ns (r * stride + q) 0 ≡ get_or ms (r * stride + q) 0

pub no_rows : (w stride s n a b left right : ℕ) (ms : List ℕ) → AreRowsExchanged w stride s n a b left right 0 ms ms
no_rows w stride s n a b left right ms = record { each = λ m q below. absurd (omega arith); others = λ r q inside apart. refl }

module _ (w stride s n a b left right count : ℕ) (ms ns os : List ℕ) (some : 0 < s) (order : a < b) (square : b < n) (before : AreRowsExchanged w stride s n a b left right count ms ns)
    (now : AreExchanged w ((b - a) * s) left right (index_of s n (count / s) a (count % s) * stride) (index_of s n (count / s) b (count % s) * stride) stride ns os) where
  abbrev row : ℕ → ℕ → ℕ
  row c m = index_of s n (m / s) c (m % s)

  -- the rows of two places are apart
  apart : (c d m p : ℕ) → c < n → d < n → m ≢ p → row c m ≢ row d p
  apart c d m p within also other e =
      let same = same_parts s n (m / s) (p / s) c d (m % s) (p % s) within also (mod_below m s some) (mod_below p s some) e in
      other (sym (div-add-mod' m s) ∙ ap₂ (λ h x. h * s + x) same.0 same.2 ∙ div-add-mod' p s)

  -- those of two squares too
  apart_squares : (m p : ℕ) → row a m ≢ row b p
  apart_squares m p e =
      let same = same_parts s n (m / s) (p / s) a b (m % s) (p % s) (omega (arith, order, square)) square (mod_below m s some) (mod_below p s some) e in
      omega (arith, same.1, order)

  stays : (r q : ℕ) → q < stride → r ≢ row a count → r ≢ row b count → get_or os (r * stride + q) 0 ≡ get_or ns (r * stride + q) 0
  stays r q inside up low = now.others (r * stride + q) (outside r (row a count) q stride inside up) (outside r (row b count) q stride inside low)

  was : (r q : ℕ) → q < stride → (r ≡ row a count) ⊎ (r ≡ row b count) → get_or ns (r * stride + q) 0 ≡ get_or ms (r * stride + q) 0
  was r q inside this = before.others r q inside (λ m below. elim this [
    | inl is ↦ (λ e. apart a a count m (omega (arith, order, square)) (omega (arith, order, square)) (λ same. omega (arith, same, below)) (sym is ∙ e), λ e. apart_squares count m (sym is ∙ e))
    | inr is ↦ (λ e. apart_squares m count (sym e ∙ is), λ e. apart b b count m square square (λ same. omega (arith, same, below)) (sym is ∙ e))
  ])

  pub rows_more : AreRowsExchanged w stride s n a b left right (count + 1) ms os
  rows_more = record {
    each = λ m q below inside. elim (cases_eq m count) [
      | inl last ↦ rw last (rw (← was (row a count) q inside (inl refl), ← was (row b count) q inside (inr refl)) (now.each q inside))
      | inr other ↦
          let low : a < n = omega (arith, order, square) in
          rw (stays (row a m) q inside (apart a a m count low low other) (apart_squares m count), stays (row b m) q inside (λ e. apart_squares count m (sym e)) (apart b b m count square square other))
          (before.each m q (omega (arith, below, other)) inside)
    ];
    others = λ r q inside none. stays r q inside (none count (omega arith)).0 (none count (omega arith)).1 ∙ before.others r q inside (λ m below. none m (omega (arith, below)));
  }

-- all rows of both squares are exchanged, and so the squares are
module _ (w stride s n a b left right : ℕ) (ms ns : List ℕ) (some : 0 < s) (whole : w % (n * s) ≡ 0) (order : a < b) (square : b < n)
    (lefts : (c : ℕ) → c < w → is_one left c ≡ (c / s % n == a)) (rights : (c : ℕ) → c < w
    → is_one right c ≡ (c / s % n == b)) (rows : AreRowsExchanged w stride s n a b left right (w / n) ms ns) where
  many : 0 < n
  many = omega (arith, square)

  in_a : (k d y : ℕ) → k < w / (n * s) → d < n → y < s → is_one left (index_of s n k d y) ≡ (d == a)
  in_a k d y group within inside = lefts (index_of s n k d y) (index_within w s n some many whole k d y group within inside) ∙ ap (λ c. c == a) (square_of s n k d y within inside)

  in_b : (k d y : ℕ) → k < w / (n * s) → d < n → y < s → is_one right (index_of s n k d y) ≡ (d == b)
  in_b k d y group within inside = rights (index_of s n k d y) (index_within w s n some many whole k d y group within inside) ∙ ap (λ c. c == b) (square_of s n k d y within inside)

  -- the row of a place
  here : (q h x : ℕ) → q < stride → h < w / (n * s) → x < s
      → IsExchanged w ((b - a) * s) left right (get_or ms (index_of s n h a x * stride + q) 0)
      (get_or ms (index_of s n h b x * stride + q) 0) (get_or ns (index_of s n h a x * stride + q) 0)
      (get_or ns (index_of s n h b x * stride + q) 0)
  here q h x inside group within =
      rw (div-mul-add h s x within, mod-mul-add h s x within) at (rows.each (h * s + x) q (place_below w s n some many whole h x group within) inside)

  pub pairs_exchanged : ArePairsExchanged w stride s n a b ms ns
  pairs_exchanged = record {
    up = λ q h k x y inside group also within too.
        let to = moved_by s n k a b y (omega (arith, order)) in
        let below = index_within w s n some many whole k b y also square too in
        rw to at ((here q h x inside group within).up (index_of s n k a y) (omega (arith, to, below)) (rw to (in_b k b y also square too ∙ eq-eqb b b refl)));
    down = λ q h k x y inside group also within too.
        let to = moved_by s n k a b y (omega (arith, order)) in
        let below = index_within w s n some many whole k b y also square too in
        let low : a < n = omega (arith, order, square) in
        rw to at ((here q h x inside group within).down (index_of s n k a y) (omega (arith, to, below)) (in_a k a y also low too ∙ eq-eqb a a refl));
    others = λ q h k c d x y inside group also one two within too first second. elim (cases_eq c a) [
      | inl is ↦ rw is ((here q h x inside group within).upper (index_of s n k d y) (index_within w s n some many whole k d y also two too) (in_b k d y also two too ∙ ne_eqb d b (λ e. first (is, e))))
      | inr not_a ↦ elim (cases_eq c b) [
        | inl is ↦ rw is ((here q h x inside group within).lower (index_of s n k d y)
            (index_within w s n some many whole k d y also two too) (in_a k d y also two too ∙ ne_eqb d a (λ e. second (is, e))))
        | inr not_b ↦ ap (λ m. is_one m (index_of s n k d y)) (rows.others (index_of s n h c x) q inside (λ m below. (
          λ e. not_a (same_parts s n h (m / s) c a x (m % s) one (omega (arith, order, square)) within (mod_below m s some) e).1,
          λ e. not_b (same_parts s n h (m / s) c b x (m % s) one square within (mod_below m s some) e).1,
        )))
      ]
    ];
  }

-- ---- all pairs of squares

-- whether the squares c and d are exchanged, where those of all pairs below b are, and of b with those below a
abbrev pub is_done : ℕ → ℕ → ℕ → ℕ → Bool
is_done b a c d = c == d || (nat_lt c b && nat_lt d b) || (c == b && nat_lt d a) || (d == b && nat_lt c a)

-- the squares that are, and the others
pub record ArePairsDone (w stride s n b a : ℕ) (ms ns : List ℕ) : Type 0 where
  pub moved : (q h k c d x y : ℕ) → q < stride → h < w / (n * s) → k < w / (n * s) → c < n → d < n → x < s → y < s → is_done b a c d ≡ true
      → digit_in stride ns (index_of s n h c x) q (index_of s n k d y) ≡ digit_in stride ms (index_of s n h d x) q (index_of s n k c y)
  pub others : (q h k c d x y : ℕ) → q < stride → h < w / (n * s) → k < w / (n * s) → c < n → d < n → x < s → y < s → is_done b a c d ≡ false
      → digit_in stride ns (index_of s n h c x) q (index_of s n k d y) ≡ digit_in stride ms (index_of s n h c x) q (index_of s n k d y)

pub no_pairs : (w stride s n : ℕ) (ms : List ℕ) → ArePairsDone w stride s n 0 0 ms ms
no_pairs w stride s n ms = record {
  moved = λ q h k c d x y inside group also one two within too done. elim (cases_eq c d) [
    | inl is ↦ rw is refl
    | inr other ↦ absurd (omega (arith, other, none_done c d other done))
  ];
  others = λ q h k c d x y inside group also one two within too done. refl;
}
  where
    none_done : (c d : ℕ) → c ≢ d → is_done 0 0 c d ≡ true → ⊥
    none_done c d other done = let e = ne_eqb c d other in grind (arith, nat_tests, e, done)

-- all pairs of b with those below it are done, and so those of all below the next one
pub next_square : (w stride s n b : ℕ) (ms ns : List ℕ) → ArePairsDone w stride s n b b ms ns → ArePairsDone w stride s n (b + 1) 0 ms ns
next_square w stride s n b ms ns pairs = record {
  moved = λ q h k c d x y inside group also one two within too done. pairs.moved q h k c d x y inside group also one two within too (same c d ∙ done);
  others = λ q h k c d x y inside group also one two within too done. pairs.others q h k c d x y inside group also one two within too (same c d ∙ done);
}
  where
    same : (c d : ℕ) → is_done b b c d ≡ is_done (b + 1) 0 c d
    same c d = grind (arith, nat_tests)

-- one pair more
pub pair_more : (w stride s n b a : ℕ) (ms ns os : List ℕ) → a < b → b < n → ArePairsDone w stride s n b a ms ns → ArePairsExchanged w stride s n a b ns os → ArePairsDone w stride s n b (a + 1) ms os
pair_more w stride s n b a ms ns os order square pairs now = record {
  moved = λ q h k c d x y inside group also one two within too done. elim (this_pair c d) [
    | inl is ↦ rw (is.0, is.1) (now.up q h k x y inside group also within too ∙ pairs.others q h k b a x y inside group also square (omega (arith, order, square)) within too waits_down)
    | inr rest ↦ elim rest [
      | inl is ↦ rw (is.0, is.1) (now.down q h k x y inside group also within too ∙ pairs.others q h k a b x y inside group also (omega (arith, order, square)) square within too waits_up)
      | inr other ↦ now.others q h k c d x y inside group also one two within too other.0 other.1 ∙ pairs.moved q h k c d x y inside group also one two within too (same c d other.0 other.1 ∙ done)
    ]
  ];
  others = λ q h k c d x y inside group also one two within too none. elim (this_pair c d) [
    | inl is ↦ absurd (true≢false (sym (done_up c d is.0 is.1) ∙ none))
    | inr rest ↦ elim rest [
      | inl is ↦ absurd (true≢false (sym (done_down c d is.0 is.1) ∙ none))
      | inr other ↦ now.others q h k c d x y inside group also one two within too other.0 other.1 ∙ pairs.others q h k c d x y inside group also one two within too (same c d other.0 other.1 ∙ none)
    ]
  ];
}
  where
    this_pair : (c d : ℕ) → ((c ≡ a) × (d ≡ b)) ⊎ (((c ≡ b) × (d ≡ a)) ⊎ (((c ≡ a) × (d ≡ b) → ⊥) × ((c ≡ b) × (d ≡ a) → ⊥)))
    this_pair c d = elim (cases_eq c a) [
      | inl first ↦ elim (cases_eq d b) [
        | inl second ↦ inl (first, second)
        | inr other ↦ inr (inr (λ e. other e.1, λ e. omega (arith, first, e.0, order)))
      ]
      | inr other ↦ elim (cases_eq c b) [
        | inl first ↦ elim (cases_eq d a) [
          | inl second ↦ inr (inl (first, second))
          | inr apart ↦ inr (inr (λ e. other e.0, λ e. apart e.1))
        ]
        | inr apart ↦ inr (inr (λ e. other e.0, λ e. apart e.0))
      ]
    ]

    waits_up : is_done b a a b ≡ false
    waits_up = grind (arith, nat_tests, order)

    waits_down : is_done b a b a ≡ false
    waits_down = grind (arith, nat_tests, order)

    done_up : (c d : ℕ) → c ≡ a → d ≡ b → is_done b (a + 1) c d ≡ true
    done_up c d first second = grind (arith, nat_tests, first, second)

    done_down : (c d : ℕ) → c ≡ b → d ≡ a → is_done b (a + 1) c d ≡ true
    done_down c d first second = grind (arith, nat_tests, first, second)

    same : (c d : ℕ) → ((c ≡ a) × (d ≡ b) → ⊥) → ((c ≡ b) × (d ≡ a) → ⊥) → is_done b a c d ≡ is_done b (a + 1) c d
    same c d first second = elim (cases_eq d b) [
      | inl there ↦ let no : c ≢ a = λ e. first (e, there) in grind (arith, nat_tests, there, no, order)
      | inr elsewhere ↦ elim (cases_eq c b) [
        | inl here ↦ let no : d ≢ a = λ e. second (here, e) in grind (arith, nat_tests, here, no, elsewhere, order)
        | inr other ↦ grind (arith, nat_tests, other, elsewhere)
      ]
    ]

pub all_pairs : (w stride s n : ℕ) (ms ns : List ℕ) → ArePairsDone w stride s n n 0 ms ns → AreSquaresExchanged w stride s n ms ns
all_pairs w stride s n ms ns pairs = record {
  moved = λ q h k a b x y inside group also one two within too.
      pairs.moved q h k a b x y inside group also one two within too
      (let e : is_done n 0 a b ≡ true = grind (arith, nat_tests, one, two) in e);
}

-- ---- from small squares to all of a strip

-- In each square of a size what was in a row is in a column.
pub record AreSquaresTransposed (w stride s : ℕ) (ms ns : List ℕ) : Type 0 where
  pub digit : (q h k a b : ℕ) → q < stride → h < w / s → k < w / s → a < s → b < s → digit_in stride ns (h * s + a) q (k * s + b) ≡ digit_in stride ms (h * s + b) q (k * s + a)

pub single : (w stride : ℕ) (ms : List ℕ) → AreSquaresTransposed w stride 1 ms ms
single w stride ms = record {
  digit = λ q h k a b inside group also one two. let same : a ≡ b = omega (arith, one, two) in ap₂ (λ c d. digit_in stride ms (h * 1 + c) q (k * 1 + d)) same (sym same);
}

module _ (w stride s n : ℕ) (ms ns os : List ℕ) (some : 0 < s) (many : 0 < n) (whole : w % (n * s) ≡ 0)
    (squares : AreSquaresTransposed w stride s ms ns) (now : AreSquaresExchanged w stride s n ns os) where
  -- an index in a greater square by its place in a smaller one
  by_parts : (h a : ℕ) → index_of s n h (a / s) (a % s) ≡ h * (n * s) + a
  by_parts h a =
      let parts = add-mul (h * n) (a / s) s in
      let e = mul_assoc h n s in
      omega (arith, parts, e, div-add-mod' a s)

  square_within : (h a : ℕ) → h < w / (n * s) → a < n → h * n + a < w / s
  square_within h a group within =
      let e : w / s ≡ w / (n * s) * n = (let all = all_groups w s n some many whole in ap (λ k. k / s) (all ∙ omega arith) ∙ div-mul-add (w / (n * s) * n) s 0 some) in
      let row = row_fits h n (w / (n * s)) n group (omega arith) in
      omega (arith, row, within, e)

  pub greater : AreSquaresTransposed w stride (n * s) ms os
  greater = record {
    digit = λ q h k a b inside group also one two.
        let in_a : a / s < n = div_below a s n some one in
        let in_b : b / s < n = div_below b s n some two in
        let low_a = mod_below a s some in
        let low_b = mod_below b s some in
        ap₂ (λ i j. digit_in stride os i q j) (sym (by_parts h a)) (sym (by_parts k b))
        ∙ now.moved q h k (a / s) (b / s) (a % s) (b % s) inside group also in_a in_b low_a low_b
        ∙ squares.digit q (h * n + b / s) (k * n + a / s) (a % s) (b % s) inside (square_within h (b / s) group in_b) (square_within k (a / s) also in_a) low_a low_b
        ∙ ap₂ (λ i j. digit_in stride ms i q j) (by_parts h b) (by_parts k a);
  }

-- ---- how many squares there are

-- as many as it takes
pub whole_squares : (w s : ℕ) → w % s ≡ 0 → w / s * s ≡ w
whole_squares w s whole = omega (arith, div-add-mod' w s, whole)

-- where they are even, those of twice the size are whole too
pub whole_twice : (w s : ℕ) → 0 < s → w % s ≡ 0 → w / s % 2 ≡ 0 → w % (2 * s) ≡ 0
whole_twice w s some whole even =
    let half = w / s / 2 in
    let pairs : w / s ≡ half * 2 = omega (arith, div-add-mod' (w / s) 2, even) in
    let e : w ≡ half * (2 * s) + 0 = omega (arith, whole_squares w s whole, ap (λ n. n * s) pairs, mul_assoc half 2 s) in
    ap (λ n. n % (2 * s)) e ∙ mod-mul-add half (2 * s) 0 (omega (arith, some))

-- and there is one
pub some_squares : (w s : ℕ) → 0 < w → w % s ≡ 0 → 0 < w / s
some_squares w s pos whole = elim (cases_eq (w / s) 0) [
  | inl none ↦ absurd (omega (arith, pos, whole_squares w s whole, ap (λ n. n * s) none))
  | inr some ↦ omega (arith, some)
]

-- one square is all rows
pub whole_strip : (w width stride k s : ℕ) (ms ns os : List ℕ) → 0 < w → s ≡ w → AreSquaresTransposed w width s ns os
    → ((i g : ℕ) → i < w → g < width → get_or ns (i * width + g) 0 ≡ get_or ms ((g * w + i) * stride + k) 0)
    → IsTransposedStrip w width stride k ms os
whole_strip w width stride k s ms ns os pos is squares loaded = record {
  digit = λ i g j row inside column.
      let one : 0 < w / s = rw is (let e : w / w ≡ 1 = ap (λ n. n / w) (let f : w ≡ 1 * w + 0 = omega arith in f) ∙ div-mul-add 1 w 0 pos in omega (arith, e)) in
      let first = λ (n : ℕ). let e : n ≡ 0 * s + n = omega arith in e in
      ap₂ (λ a b. digit_in width os a g b) (first i) (first j)
      ∙ squares.digit g 0 0 i j inside one one (omega (arith, row, is)) (omega (arith, column, is))
      ∙ ap₂ (λ a b. digit_in width ns a g b) (sym (first j)) (sym (first i))
      ∙ ap (λ m. is_one m i) (loaded j g column inside);
}
