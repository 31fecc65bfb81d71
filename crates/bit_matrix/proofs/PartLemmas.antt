-- What merges of blocks do, block by block.
use Rattle.std.proofs.Common.{◌≡◌, ◌≢◌, ℕ, ◌+◌, ◌-◌, ◌*◌, ◌^◌, ◌<◌, ◌≤◌, ◌==◌, ◌↔◌, ◌++◌, Bool, true, false, not, List, All}
use Rattle.std.proofs.Common.{drop, length, get_or, map, set, take, refl, sym, ap, ap₂, ◌∙◌, arith, inl, inr}
use Rattle.std.proofs.lemmas.{Bool.{cases_eq, cases_lt, Decides.nat_tests}, Nat.{row_fits}}
use Rattle.std.proofs.lemmas.List.{get_or-append-add, get_or-append_right, get_or-drop, get_or-set_other, get_or-set_same}
use Rattle.std.proofs.lemmas.List.{get_or-take, get_or_append_left, get_or_past, length-map, map-append, take-map}
use Rattle.bit_blocks.specs.{BlockMerges.{other_at, AreKept, HasMerged, Stay}, Digits.is_one, Merges.merge_of_values, declared.block.merge.Merge.Merge}
use Rattle.bit_blocks.proofs.{BlockMergeLemmas.{merged_more, merged_none, merged_put, merged_same, stay_more, stay_none, stay_one, stay_part, stay_same}, VectorLemmas.numbers_below}
use Rattle.bit_matrix.specs.Merges.{AreApart, IsMergedPart, IsTrackedBlock, IsTrackedMerge}
use Rattle.bit_matrix.proofs.RowLemmas.{map-slice, same_block}

-- one block more, whose merge x was written
pub block_merged : (m : Merge) (w read write k x : ℕ) (ms os ns rs : List ℕ) → write + k < length ns → rs ≡ set ns (write + k) x → IsMergedPart m w read write k ms os ns
    → ((j : ℕ) → j < w → is_one x j ≡ merge_of_values m (is_one (get_or ms (write + k) 0) j) (is_one (get_or os (read + k) 0) j)) → IsMergedPart m w read write (k + 1) ms os rs
block_merged m w read write k x ms os ns rs within is before digits = record {
  digit = λ i j below inside. elim (cases_eq i k) [
    | inl here ↦ ap (λ zs. is_one (get_or zs (write + i) 0) j) is
        ∙ ap (λ n. is_one (get_or (set ns (write + k) x) (write + n) 0) j) here
        ∙ ap (λ n. is_one n j) (get_or-set_same ns (write + k) x 0 within) ∙ digits j inside
        ∙ ap (λ n. merge_of_values m (is_one (get_or ms (write + n) 0) j) (is_one (get_or os (read + n) 0) j)) (sym here)
    | inr other ↦ ap (λ zs. is_one (get_or zs (write + i) 0) j) is
        ∙ ap (λ n. is_one n j) (get_or-set_other ns (write + k) (write + i) x 0 (λ e. other (omega (arith, e))))
        ∙ before.digit i j (omega arith) inside
  ];
  others = λ q apart. ap (λ zs. get_or zs q 0) is ∙ get_or-set_other ns (write + k) q x 0 (apart k (omega arith)) ∙ before.others q (λ i below. apart i (omega arith));
}

-- the block that is written is that of the beginning
pub still_write : (m : Merge) (w read write k : ℕ) (ms os ns : List ℕ) → IsMergedPart m w read write k ms os ns → get_or ns (write + k) 0 ≡ get_or ms (write + k) 0
still_write m w read write k ms os ns before = before.others (write + k) (λ i below e. omega (arith, e, below))

-- whether a block changed so far
pub reported_more : (write k x y : ℕ) (ms ns rs : List ℕ) (b c : ℕ) → write + k < length ns → rs ≡ set ns (write + k) x
    → get_or ns (write + k) 0 ≡ y → get_or ms (write + k) 0 ≡ y
    → ((b ≡ 0) ↔ ((q : ℕ) → q < k → get_or ns (write + q) 0 ≡ get_or ms (write + q) 0)) → ((c ≡ 0) ↔ ((b ≡ 0) × (y ≡ x)))
    → (c ≡ 0) ↔ ((q : ℕ) → q < k + 1 → get_or rs (write + q) 0 ≡ get_or ms (write + q) 0)
reported_more write k x y ms ns rs b c within is now was before one =
    let here : get_or rs (write + k) 0 ≡ x = ap (λ zs. get_or zs (write + k) 0) is ∙ get_or-set_same ns (write + k) x 0 within in
    let elsewhere = λ (q : ℕ) (below : q < k). let e : get_or rs (write + q) 0 ≡ get_or ns (write + q) 0 =
    ap (λ zs. get_or zs (write + q) 0) is ∙ get_or-set_other ns (write + k) (write + q) x 0 (λ e. omega (arith, e, below)) in
    e in (
      λ none q below. elim (cases_eq q k) [
        | inl last ↦ ap (λ n. get_or rs (write + n) 0) last ∙ here ∙ sym (one.0 none).1 ∙ sym was ∙ ap (λ n. get_or ms (write + n) 0) (sym last)
        | inr other ↦ elsewhere q (omega arith) ∙ before.0 (one.0 none).0 q (omega arith)
      ],
      λ same. one.1 (before.1 (λ q below. sym (elsewhere q below) ∙ same q (omega arith)), sym was ∙ sym (same k (omega arith)) ∙ here),
    )

-- rows of so many blocks are the same, or apart
pub rows_apart : (r q stride : ℕ) → AreApart (r * stride) (q * stride) stride
rows_apart r q stride = record {
  apart = elim (cases_eq r q) [
    | inl same ↦ inl (ap (λ n. n * stride) same)
    | inr other ↦ elim (cases_lt r q) [
      | inl before ↦ inr (inl (row_fits r stride q stride before (omega arith)))
      | inr after ↦ inr (inr (row_fits q stride r stride (omega (arith, after, other)) (omega arith)))
    ]
  ];
}

-- which of two that are apart comes first
pub before_other : (read write count : ℕ) → AreApart read write count → read < write → read + count ≤ write
before_other read write count are less = elim are.apart [
  | inl same ↦ omega (arith, same, less)
  | inr rest ↦ elim rest [ inl low ↦ low | inr high ↦ omega (arith, high, less) ]
]

pub after_other : (read write count : ℕ) → AreApart read write count → write < read → write + count ≤ read
after_other read write count are less = elim are.apart [
  | inl same ↦ omega (arith, same, less)
  | inr rest ↦ elim rest [ inl low ↦ omega (arith, low, less) | inr high ↦ high ]
]

-- ---- whether blocks stay

module _ {X : Type 0} (m : Merge) (w : ℕ) (f : X → ℕ) (P : X → Type 0) where
  pub tracked_none : (start end : ℕ) (xs os : List X) (was : X) → All P xs → P was → end ≤ start → IsTrackedMerge m w f P start end xs os xs was was
  tracked_none start end xs os was each is le = record {
    has = merged_none m w f P start end _ xs each le;
    of_block = is;
    none = (λ none. (none, stay_none m w f start end _ xs le), λ both. both.0);
  }

  -- the block k, which was read in xs, is written in ys
  pub tracked_put : (k : ℕ) (xs os ys zs : List X) (merged was now : X) → ((x : X) → P x → f x < 2 ^ w) → All P ys
      → k < length ys → get_or (map f ys) k 0 ≡ get_or (map f xs) k 0 → IsTrackedBlock m w f P k xs os merged was now
      → map f zs ≡ set (map f ys) k (f merged) → All P zs → length zs ≡ length ys
      → IsTrackedMerge m w f P k (k + 1) ys os zs was now
  tracked_put k xs os ys zs merged was now law each within still tracked written all len =
      let a = get_or (map f ys) k 0 in
      let b = get_or (map f os) k 0 in
      let digits = λ (j : ℕ) (inside : j < w). let e : is_one (f merged) j ≡ merge_of_values m (is_one a j) (is_one b j) =
      tracked.digit j inside ∙ ap (λ n. merge_of_values m (is_one n j) (is_one b j)) (sym still) in e in
      let same = λ (q j : ℕ) (le : k ≤ q) (below : q < k + 1) (inside : j < w). let here : k ≡ q =
      omega (arith, le, below) in
      let e : is_one b j ≡ other_at (map f os) q j = ap (λ i. is_one (get_or (map f os) i 0) j) here in e in
      let one = stay_one m w f k a b (f merged) ys refl (numbers_below w f P ys law each k) (law merged tracked.is_merged) digits in
      record {
        has = merged_same m w f P k (k + 1) (λ q j. is_one b j) (other_at (map f os)) ys zs same (merged_put m w f P k a b (f merged) ys zs within written all len refl digits);
        of_block = tracked.of_block;
        none = (
          λ none. let both = tracked.none.0 none in (both.0, stay_same m w f k (k + 1) (λ q j. is_one b j) (other_at (map f os)) ys same (one.0 (still ∙ both.1))),
          λ stays. tracked.none.1 (stays.0, sym still ∙ one.1 (stay_same m w f k (k + 1) (other_at (map f os)) (λ q j. is_one b j) ys (λ q j le below inside. sym (same q j le below inside)) stays.1)),
        );
      }

  -- blocks that are not merged yet stay where they stayed before
  stay_before : (b c : ℕ) (other : ℕ → ℕ → Bool) (xs ys : List X) → ((k : ℕ) → b ≤ k → get_or (map f ys) k 0 ≡ get_or (map f xs) k 0) → Stay m w f b c other ys → Stay m w f b c other xs
  stay_before b c other xs ys after stays = record {
    digit = λ k j from below inside. ap (λ n. is_one n j) (sym (after k from)) ∙ stays.digit k j from below inside ∙ ap (λ n. merge_of_values m (is_one n j) (other k j)) (after k from);
  }

  -- some more of them
  pub tracked_more : (a b c p q : ℕ) (xs os ys zs : List X) (was one now : X) → a ≤ b → b ≤ c → p ≡ b → q ≡ c
      → IsTrackedMerge m w f P a b xs os ys was one → IsTrackedMerge m w f P p q ys os zs one now
      → IsTrackedMerge m w f P a c xs os zs was now
  tracked_more a b c p q xs os ys zs was one now le also from to first second =
      let other = other_at (map f os) in
      let next = rw (from, to) at second in
      let after = first.has.after in
      record {
        has = merged_more m w f P a b c b c other xs ys zs le also refl refl first.has next.has;
        of_block = next.of_block;
        none = (
          λ none.
              let both = next.none.0 none in
              let before = first.none.0 both.0 in
              (before.0, stay_more m w f a b c other xs before.1 (stay_before b c other xs ys after both.1)),
          λ stays. next.none.1 (
            first.none.1 (stays.0, stay_part m w f a a b c other xs (omega arith) also stays.1),
            stay_before b c other ys xs (λ k late. sym (after k late)) (stay_part m w f a b c c other xs le (omega arith) stays.1),
          ),
        );
      }

  -- one more
  pub tracked_next : (start k p q : ℕ) (xs os ys zs : List X) (merged was one now : X) → ((x : X) → P x → f x < 2 ^ w)
      → length os ≤ length xs → k < length os → start ≤ k → p ≡ k → q ≡ k + 1
      → IsTrackedMerge m w f P start p xs os ys was one → IsTrackedBlock m w f P k xs os merged one now
      → map f zs ≡ set (map f ys) k (f merged) → All P zs → length zs ≡ length ys
      → IsTrackedMerge m w f P start q xs os zs was now
  tracked_next start k p q xs os ys zs merged was one now law fewer within from here next before tracked written all len =
      let grows : k ≤ k + 1 = omega arith in
      let so_far = rw here at before in
      let step = tracked_put k xs os ys zs merged one now law so_far.has.each (omega (arith, so_far.has.len, fewer, within)) (so_far.has.after k (omega arith)) tracked written all len in
      rw next (tracked_more start k (k + 1) k (k + 1) xs os ys zs was one now from grows refl refl so_far step)

-- what a test of the mismatches for 0 says
pub reported_same : (result : Bool) (a z : ℕ) (stays : Type 0) → result ≡ (a == z) → z ≡ 0 → ((a ≡ 0) ↔ stays) → (result ≡ true) ↔ stays
reported_same result a z stays is none tells =
    let there : result ≡ true → a ≡ 0 = λ yes. grind (arith, nat_tests) in
    let back : a ≡ 0 → result ≡ true = λ zero. grind (arith, nat_tests) in
    (λ yes. tells.0 (there yes), λ all. back (tells.1 all))

pub of_not : {b : Bool} → not b ≡ false → b ≡ true
of_not off = grind (arith, off)

-- what stays digit by digit stays
pub stay_kept : {X : Type 0} (m : Merge) (w : ℕ) (f : X → ℕ) (P : X → Type 0) (start end : ℕ) (xs os ys : List X)
    → ((x : X) → P x → f x < 2 ^ w) → All P xs → HasMerged m w f P start end (other_at (map f os)) xs ys
    → Stay m w f start end (other_at (map f os)) xs → AreKept (map f xs) (map f ys)
stay_kept m w f P start end xs os ys law each is stay k = elim (cases_lt k start) [
  | inl early ↦ is.before k early
  | inr from ↦ elim (cases_lt k end) [
    | inl below ↦ same_block w (get_or (map f ys) k 0) (get_or (map f xs) k 0) (numbers_below w f P ys law is.each k)
        (numbers_below w f P xs law each k) (λ j inside. is.digit k j from below inside ∙ sym (stay.digit k j from below inside))
    | inr past ↦ is.after k past
  ]
]

-- ---- a part of the blocks that is merged on its own

-- The blocks qs stand from `at` on in ns, where as many others, ps, stand in ms; what is beside them is the same.
pub record IsPut (at : ℕ) (ps qs ms ns : List ℕ) : Type 0 where
  pub was : (i : ℕ) → i < length ps → get_or ms (at + i) 0 ≡ get_or ps i 0
  pub is : (i : ℕ) → i < length ps → get_or ns (at + i) 0 ≡ get_or qs i 0
  pub others : (q : ℕ) → ((i : ℕ) → i < length ps → q ≢ at + i) → get_or ns q 0 ≡ get_or ms q 0

is_put_here : (front ps qs back : List ℕ) → length qs ≡ length ps → IsPut (length front) ps qs (front ++ (ps ++ back)) (front ++ (qs ++ back))
is_put_here front ps qs back long = record {
  was = λ i below. get_or-append-add front (ps ++ back) i 0 ∙ get_or_append_left ps back 0 i below;
  is = λ i below. get_or-append-add front (qs ++ back) i 0 ∙ get_or_append_left qs back 0 i (omega (arith, below, long));
  others = λ q apart. elim (cases_lt q (length front)) [
    | inl early ↦ get_or_append_left front (qs ++ back) 0 q early ∙ sym (get_or_append_left front (ps ++ back) 0 q early)
    | inr late ↦
        let i = q - length front in
        let past : length ps ≤ i = elim (cases_lt i (length ps)) [ inl inside ↦ absurd (apart i inside (omega (arith, late))) | inr past ↦ past ] in
        let after = λ (zs : List ℕ) (as_long : length zs ≡ length ps).
        let e : get_or (front ++ (zs ++ back)) q 0 ≡ get_or back (i - length ps) 0 =
        get_or-append_right front (zs ++ back) (length front) q 0 refl late
        ∙ get_or-append_right zs back (length ps) i 0 as_long past in e in
        after qs long ∙ sym (after ps refl)
  ];
}

-- the same of lists whose numbers these are
pub is_put : {X : Type 0} (f : X → ℕ) (front xs ys back : List X) (at : ℕ) → length front ≡ at → length ys ≡ length xs
    → IsPut at (map f xs) (map f ys) (map f (front ++ (xs ++ back))) (map f (front ++ (ys ++ back)))
is_put f front xs ys back at here long =
    let parts = λ (zs : List _). map-append f front (zs ++ back) ∙ ap (λ ns. map f front ++ ns) (map-append f zs back) in
    rw (parts xs) (rw (parts ys) (rw (sym here) (rw (sym (length-map front f)) (is_put_here (map f front) (map f xs) (map f ys) (map f back) (length-map ys f ∙ long ∙ sym (length-map xs f))))))

pub whole_part : {X : Type 0} (m : Merge) (w : ℕ) (f : X → ℕ) (P : X → Type 0) (n : ℕ) (xs os ys : List X)
    → HasMerged m w f P 0 n (other_at (map f os)) xs ys → IsMergedPart m w 0 0 n (map f xs) (map f os) (map f ys)
whole_part m w f P n xs os ys merged = record {
  digit = λ k j below inside. let e : 0 + k ≡ k = omega arith in rw e (merged.digit k j (omega arith) below inside);
  others = λ q apart. merged.after q (elim (cases_lt q n) [ inl below ↦ absurd (apart q below (omega arith)) | inr past ↦ past ]);
}

module _ (m : Merge) (w : ℕ) where
  -- what is merged in the part is merged in the whole, with the same others
  pub part_merged : (at v write read count : ℕ) (ps os qs ms zs ns : List ℕ) → at + v ≡ write → IsPut at ps qs ms ns
      → IsMergedPart m w 0 v count ps os qs → v + count ≤ length ps
      → ((k : ℕ) → k < count → get_or os (0 + k) 0 ≡ get_or zs (read + k) 0) → IsMergedPart m w read write count ms zs ns
  part_merged at v write read count ps os qs ms zs ns is put merged fits same = record {
    digit = λ k j below inside.
        let e : write + k ≡ at + (v + k) = omega (arith, is) in
        rw e
        (ap (λ n. is_one n j) (put.is (v + k) (omega (arith, below, fits)))
        ∙ merged.digit k j below inside
        ∙ ap₂ (λ a b. merge_of_values m (is_one a j) (is_one b j)) (sym (put.was (v + k) (omega (arith, below, fits)))) (same k below));
    others = λ q apart. elim (cases_lt q at) [
      | inl early ↦ put.others q (λ i inside e. omega (arith, e, early))
      | inr late ↦
          let i = q - at in
          let here : q ≡ at + i = omega (arith, late) in
          elim (cases_lt i (length ps)) [
            | inl inside ↦ rw here (put.is i inside ∙ merged.others i (λ k below e. apart k below (omega (arith, here, e, is))) ∙ sym (put.was i inside))
            | inr past ↦ put.others q (λ k inside e. omega (arith, e, here, past))
          ]
    ];
  }

-- the part stays just where it does in the whole
pub part_stays : (at v write count : ℕ) (ps qs ms ns : List ℕ) (stays : Type 0) → at + v ≡ write → IsPut at ps qs ms ns
    → v + count ≤ length ps → (stays ↔ ((k : ℕ) → k < count → get_or qs (v + k) 0 ≡ get_or ps (v + k) 0))
    → stays ↔ ((k : ℕ) → k < count → get_or ns (write + k) 0 ≡ get_or ms (write + k) 0)
part_stays at v write count ps qs ms ns stays is put fits tells =
    let e = λ (k : ℕ). let e : write + k ≡ at + (v + k) = omega (arith, is) in e in (
      λ yes k below. rw (e k) (put.is (v + k) (omega (arith, below, fits)) ∙ tells.0 yes k below ∙ sym (put.was (v + k) (omega (arith, below, fits)))),
      λ all. tells.1 (λ k below. sym (put.is (v + k) (omega (arith, below, fits))) ∙ (rw (e k) at (all k below)) ∙ put.was (v + k) (omega (arith, below, fits))),
    )

pub kept_part : (n : ℕ) (ps qs : List ℕ) (stays : Type 0) → length ps ≡ n → length qs ≡ n → (stays ↔ AreKept ps qs) → stays ↔ ((k : ℕ) → k < n → get_or qs (0 + k) 0 ≡ get_or ps (0 + k) 0)
kept_part n ps qs stays long as_long tells = (
  λ yes k below. tells.0 yes (0 + k),
  λ all. tells.1 (λ k. elim (cases_lt k n) [
    | inl below ↦ let e : 0 + k ≡ k = omega arith in rw e at (all k below)
    | inr past ↦ get_or_past qs k 0 (omega (arith, past, as_long)) ∙ sym (get_or_past ps k 0 (omega (arith, past, long)))
  ]),
)

-- a block of a slice of the front
pub slice_block : {X : Type 0} (f : X → ℕ) (xs front back rest others : List X) (read count k : ℕ) → xs ≡ front ++ back
    → rest ≡ drop read front → others ≡ take count rest → read + count ≤ length front → k < count
    → get_or (map f others) (0 + k) 0 ≡ get_or (map f xs) (read + k) 0
slice_block f xs front back rest others read count k whole from slice fits below =
    let e : 0 + k ≡ k = omega arith in
    rw (e, slice, from, map-slice f read count front, whole, map-append f front back)
    (get_or-take count (drop read (map f front)) k 0 below
    ∙ get_or-drop read (map f front) k 0
    ∙ sym (get_or_append_left (map f front) (map f back) 0 (read + k) (omega (arith, length-map front f, below, fits))))

-- a block of the back
pub back_block : {X : Type 0} (f : X → ℕ) (xs front back others : List X) (read count k : ℕ) → xs ≡ front ++ back
    → length front ≡ read → others ≡ take count back → k < count
    → get_or (map f others) (0 + k) 0 ≡ get_or (map f xs) (read + k) 0
back_block f xs front back others read count k whole long from below =
    let e : 0 + k ≡ k = omega arith in
    let here : read ≡ length (map f front) = sym long ∙ sym (length-map front f) in
    rw (e, from, whole, map-append f front back, here)
    (ap (λ zs. get_or zs k 0) (sym (take-map f count back))
    ∙ get_or-take count (map f back) k 0 below
    ∙ sym (get_or-append-add (map f front) (map f back) k 0))
