-- What a test that is asked of one member after another leaves of a set.
use Rattle.std.proofs.Common.{◌≡◌, ◌≢◌, ℕ, ◌+◌, ◌-◌, ◌*◌, ◌/◌, ◌^◌, ◌<◌, ◌≤◌, min, Bool, true, false, not, ◌&&◌, ◌||◌, cond, eqb, ltb, nat_le, List, [], ◌∷◌, ◌++◌, get_or, length, refl, sym, ap, ap₂}
use Rattle.std.proofs.Common.{◌∙◌, arith, subst, append_assoc, filter, All, inl, inr, ⊎_elim, div-add-mod', mod-lt, mul-le-mul_right, zero, suc}
use Rattle.std.proofs.lemmas.Bool.{cases_eq, cases_lt, false≢true, Decides.nat_tests}
use Rattle.std.proofs.lemmas.List.{append-nil, get_or_past, length-append, Elements.{All-cons, All-nil, filter-append}, Folds.list_any-append}
use Rattle.std.proofs.lemmas.List.FromFn.{get_or-map-range_with_len, length-map-range_with_len}
use Rattle.std.specs.{Bool.MatchBool, List.{items_where_true, Retain.{IsFiltered, ReturnsInTurn}}}
use Rattle.bit_blocks.{proofs.BitsLemmas.block_past, specs.Digits.is_one}
use Rattle.bit_words.specs.Kept.{KeepsInBlock}
use Rattle.set_algebra.specs.Sets.{AscendsFrom, IsAscending, elements, has, those_from, without}
use Rattle.bit_set.specs.{Indexes.{digits_from, indexes}, Retained.{HasTested, ones}}
use Rattle.set_algebra.proofs.RangeLemmas.{AscendsFrom-joined, AscendsFrom-those_from}
use Rattle.bit_set.proofs.IndexLemmas.{AscendsFrom-indexes}
use Rattle.set_algebra.proofs.SetLemmas.{AscendsFrom-filter, AscendsFrom-lower, IsAscending-elements, elements-kept, has-below, has-elements, has-elements_from, has-filter, has-first, has-without}
use Rattle.set_algebra.proofs.SetLemmas.{same_members, same_members_from}
use Rattle.set_algebra.proofs.{SizeLemmas.without-first, ValueLemmas.has-past}

-- ---- what is kept of a list

has-kept : (bs : List Bool) (xs : List ℕ) (m : ℕ) → has (items_where_true bs xs) m ≡ true → has xs m ≡ true
has-kept [] xs m is = absurd (grind (arith, is))
has-kept (b ∷ bs) [] m is = absurd (grind (arith, is))
has-kept (true ∷ bs) (x ∷ xs) m is = let rest = has-kept bs xs m in grind (arith, rest)
has-kept (false ∷ bs) (x ∷ xs) m is = let rest = has-kept bs xs m in grind (arith, rest)

-- no more are kept than there were
kept-le : (bs : List Bool) (xs : List ℕ) → length (items_where_true bs xs) ≤ length xs
kept-le [] xs = omega arith
kept-le (b ∷ bs) [] = omega arith
kept-le (true ∷ bs) (x ∷ xs) = let rest = kept-le bs xs in omega (arith, rest)
kept-le (false ∷ bs) (x ∷ xs) = let rest = kept-le bs xs in omega (arith, rest)

pub filtered-le : {P : Type 0} (R : P → ℕ → Bool → P → Type 0) (p : P) (xs ys : List ℕ) → IsFiltered R p xs ys → length ys ≤ length xs
filtered-le R p xs ys is = omega (arith, kept-le is.0 xs, ap length is.4)

kept-append : (bs : List Bool) (xs : List ℕ) (cs : List Bool) (ys : List ℕ) → length bs ≡ length xs → items_where_true (bs ++ cs) (xs ++ ys) ≡ items_where_true bs xs ++ items_where_true cs ys
kept-append [] [] cs ys long = refl
kept-append [] (x ∷ xs) cs ys long = absurd (omega (arith, long))
kept-append (b ∷ bs) [] cs ys long = absurd (omega (arith, long))
kept-append (true ∷ bs) (x ∷ xs) cs ys long = ap (λ zs. x ∷ zs) (kept-append bs xs cs ys (omega (arith, long)))
kept-append (false ∷ bs) (x ∷ xs) cs ys long = kept-append bs xs cs ys (omega (arith, long))

kept-pushed : (bs : List Bool) (xs : List ℕ) (b : Bool) (x : ℕ) → length bs ≡ length xs → items_where_true (bs ++ b ∷ []) (xs ++ x ∷ []) ≡ items_where_true bs xs ++ cond b (x ∷ []) []
kept-pushed bs xs true x long = kept-append bs xs (true ∷ []) (x ∷ []) long
kept-pushed bs xs false x long = kept-append bs xs (false ∷ []) (x ∷ []) long

without-none : (s : List ℕ) (n : ℕ) → has s n ≡ false → without s n ≡ s
without-none [] n none = refl
without-none (x ∷ xs) n none = let rest = without-none xs n in grind (arith, nat_tests, rest)

without-append : (s t : List ℕ) (n : ℕ) → without (s ++ t) n ≡ without s n ++ without t n
without-append [] t n = refl
without-append (x ∷ xs) t n = let rest = without-append xs t n in grind (arith, rest)

-- what is left where the first of the others was tested
kept_next : (b : Bool) (front : List ℕ) (x : ℕ) (rest new : List ℕ) → new ≡ front ++ x ∷ rest
    → has front x ≡ false → IsAscending (x ∷ rest) → cond b new (without new x) ≡ front ++ cond b (x ∷ []) [] ++ rest
kept_next true front x rest new is absent up = is ∙ sym (append_assoc front (x ∷ []) rest)
kept_next false front x rest new is absent up =
    ap (λ s. without s x) is
    ∙ without-append front (x ∷ rest) x
    ∙ ap₂ (λ s t. s ++ t) (without-none front x absent) (without-first x rest up)
    ∙ sym (ap (λ s. s ++ rest) (append-nil front))

-- ---- the first members of a set were tested

-- what ascends past some numbers has none of them there
pub ascends_from : (low : ℕ) (xs : List ℕ) (x : ℕ) (ys : List ℕ) → AscendsFrom low (xs ++ x ∷ ys) → low ≤ x
ascends_from low [] x ys up = up.0
ascends_from low (y ∷ xs) x ys up = let rest = ascends_from (y + 1) xs x ys up.1 in omega (arith, rest, up.0)

absent_before : (low : ℕ) (xs : List ℕ) (x : ℕ) (ys : List ℕ) → AscendsFrom low (xs ++ x ∷ ys) → has xs x ≡ false
absent_before low [] x ys up = refl
absent_before low (y ∷ xs) x ys up =
    let rest = absent_before (y + 1) xs x ys up.1 in let above = ascends_from (y + 1) xs x ys up.1 in grind (arith, nat_tests, rest, above)

ascends_rest : (low : ℕ) (xs ys : List ℕ) → AscendsFrom low (xs ++ ys) → AscendsFrom low ys
ascends_rest low [] ys up = up
ascends_rest low (x ∷ xs) ys up = AscendsFrom-lower (x + 1) low ys (omega (arith, up.0)) (ascends_rest (x + 1) xs ys up.1)

module _ {P : Type 0} (R : P → ℕ → Bool → P → Type 0) where
  ran-append : (p : P) (bs : List Bool) (xs : List ℕ) (q : P) (cs : List Bool) (ys : List ℕ) (r : P)
      → ReturnsInTurn R p bs xs q → length bs ≡ length xs → ReturnsInTurn R q cs ys r → ReturnsInTurn R p (bs ++ cs) (xs ++ ys) r
  ran-append p [] [] q cs ys r ran long on = subst (λ s. ReturnsInTurn R s cs ys r) (sym ran) on
  ran-append p [] (x ∷ xs) q cs ys r ran long on = absurd (omega (arith, long))
  ran-append p (b ∷ bs) [] q cs ys r ran long on = absurd (omega (arith, long))
  ran-append p (b ∷ bs) (x ∷ xs) q cs ys r ran long on = (ran.0, ran.1, ran-append ran.0 bs xs q cs ys r ran.2 (omega (arith, long)) on)

  pub tested-none : (p : P) (old : List ℕ) → HasTested R p old p old old
  tested-none p old = record { tested = []; answers = []; ran = refl; long = refl; whole = refl; kept = refl }

  -- one number more
  pub tested-more : (low : ℕ) (p : P) (old : List ℕ) (q : P) (new : List ℕ) (x : ℕ) (rest others : List ℕ) (b : Bool) (r : P) (next : List ℕ)
      → AscendsFrom low old → HasTested R p old q new others → others ≡ x ∷ rest → R q x b r → next ≡ cond b new (without new x)
      → HasTested R p old r next rest
  tested-more low p old q new x rest others b r next up before here step is =
      let front = items_where_true before.answers before.tested in
      let whole : old ≡ before.tested ++ x ∷ rest = before.whole ∙ ap (λ s. before.tested ++ s) here in
      let ascends = subst (AscendsFrom low) whole up in
      let absent : has front x ≡ false = (let kept = has-kept before.answers before.tested x in let out = absent_before low before.tested x rest ascends in grind (arith, kept, out)) in
      record {
        tested = before.tested ++ x ∷ [];
        answers = before.answers ++ b ∷ [];
        ran = ran-append p before.answers before.tested q (b ∷ []) (x ∷ []) r before.ran before.long (r, step, refl);
        long = omega (arith, before.long, length-append before.answers (b ∷ []), length-append before.tested (x ∷ []));
        whole = whole ∙ sym (append_assoc before.tested (x ∷ []) rest);
        kept =
            is
            ∙ kept_next b front x rest new (before.kept ∙ ap (λ s. front ++ s) here) absent (AscendsFrom-lower low 0 (x ∷ rest) (omega arith) (ascends_rest low before.tested (x ∷ rest) ascends))
            ∙ sym (ap (λ s. s ++ rest) (kept-pushed before.answers before.tested b x before.long));
      }

  -- some more, of which `kept` were kept
  pub tested-some : (p : P) (old : List ℕ) (q : P) (new others xs kept rest : List ℕ) (r : P) (next : List ℕ) → HasTested R p old q new others → HasTested R q xs r kept [] → others ≡ xs ++ rest
      → ((front : List ℕ) → new ≡ front ++ xs ++ rest → next ≡ front ++ kept ++ rest) → HasTested R p old r next rest
  tested-some p old q new others xs kept rest r next before after here is =
      let front = items_where_true before.answers before.tested in
      let all : after.tested ≡ xs = sym (after.whole ∙ append-nil after.tested) in
      let left : kept ≡ items_where_true after.answers after.tested = after.kept ∙ append-nil (items_where_true after.answers after.tested) in
      record {
        tested = before.tested ++ after.tested;
        answers = before.answers ++ after.answers;
        ran = ran-append p before.answers before.tested q after.answers after.tested r before.ran before.long after.ran;
        long = omega (arith, before.long, after.long, length-append before.answers after.answers, length-append before.tested after.tested);
        whole = before.whole ∙ ap (λ s. before.tested ++ s) (here ∙ ap (λ s. s ++ rest) (sym all)) ∙ sym (append_assoc before.tested after.tested rest);
        kept =
            is front (before.kept ∙ ap (λ s. front ++ s) here ∙ sym (append_assoc front xs rest))
            ∙ ap (λ s. front ++ s ++ rest) left
            ∙ sym (ap (λ s. s ++ rest) (kept-append before.answers before.tested after.answers after.tested before.long));
      }

  -- where none is left
  pub tested-all : (p : P) (old : List ℕ) (q : P) (new others : List ℕ) → HasTested R p old q new others → others ≡ [] → IsFiltered R p old new
  tested-all p old q new others before none =
      let all : before.tested ≡ old = sym (before.whole ∙ ap (λ s. before.tested ++ s) none ∙ append-nil before.tested) in (
        before.answers,
        q,
        before.long ∙ ap length all,
        subst (λ xs. ReturnsInTurn R p before.answers xs q) all before.ran,
        before.kept ∙ ap (λ s. items_where_true before.answers before.tested ++ s) none ∙ append-nil _ ∙ ap (items_where_true before.answers) all,
      )

-- ---- the ones of a block

has-ones : (w p m n : ℕ) → p ≤ n → has (ones w p m) n ≡ (ltb (n - p) w && is_one m (n - p))
unfolding indexes
has-ones w p m n from =
    let k : ℕ = n - p in
    let at : p + k ≡ n = omega (arith, from) in
    let digits = digits_from m 0 w in
    let long = length-map-range_with_len (is_one m) 0 w in
    ap (has (ones w p m)) (sym at)
    ∙ has-elements_from p (digits ++ []) k
    ∙ ap (λ bs. get_or bs k false) (append-nil digits)
    ∙ ⊎_elim
    (λ (within : k < w). get_or-map-range_with_len (is_one m) 0 w k k false within (omega arith) ∙ grind (arith, nat_tests, within))
    (λ (past : w ≤ k). get_or_past digits k false (omega (arith, past, long)) ∙ grind (arith, nat_tests, past))
    (cases_lt k w)

has-ones-below : (w p m n : ℕ) → n < p → has (ones w p m) n ≡ false
has-ones-below w p m n low = has-below p (ones w p m) n (AscendsFrom-indexes w p m []) low

-- digit i was made 0
pub ones-cleared : (w p m r i : ℕ) → i < w → is_one r i ≡ false → ((j : ℕ) → j < w → j ≢ i → is_one r j ≡ is_one m j) → ones w p r ≡ without (ones w p m) (p + i)
ones-cleared w p m r i within cleared others =
    same_members_from p (ones w p r) (without (ones w p m) (p + i)) (AscendsFrom-indexes w p r []) (AscendsFrom-filter p (λ y. not (eqb y (p + i))) (ones w p m) (AscendsFrom-indexes w p m [])) (λ n.
    let loses = has-without (ones w p m) (p + i) n in
    ⊎_elim
    (λ (low : n < p). has-ones-below w p r n low ∙ grind (arith, nat_tests, low, loses, has-ones-below w p m n low))
    (λ (from : p ≤ n). has-ones w p r n from ∙ grind (arith, nat_tests, from, within, loses, has-ones w p m n from, others (n - p), cleared))
    (cases_lt n p))

-- ---- the block of the next member

parts_apart : (low : ℕ) (xs ys : List ℕ) (n : ℕ) → AscendsFrom low (xs ++ ys) → has xs n ≡ true → has ys n ≡ false
parts_apart low [] ys n up is = absurd (grind (arith, is))
parts_apart low (x ∷ xs) ys n up is =
    let rest = parts_apart (x + 1) xs ys n up.1 in
    let below = has-below (x + 1) (xs ++ ys) n up.1 in
    let both = list_any-append (λ y. eqb y n) xs ys in
    grind (arith, nat_tests, rest, below, both, is)

kept_all : (p : ℕ → Bool) (s : List ℕ) → ((n : ℕ) → has s n ≡ true → p n ≡ true) → filter p s ≡ s
kept_all p [] each = refl
kept_all p (x ∷ xs) each =
    let here = each x (has-first x xs) in
    let rest = kept_all p xs (λ n is. each n (grind (arith, is))) in
    grind (arith, here, rest)

pub below_by_members : (bound : ℕ) (s : List ℕ) → ((n : ℕ) → has s n ≡ true → n < bound) → All (λ n. n < bound) s
below_by_members bound [] each = All-nil (λ n. n < bound)
below_by_members bound (x ∷ xs) each = All-cons (λ n. n < bound) x xs (each x (has-first x xs)) (below_by_members bound xs (λ n is. each n (grind (arith, is))))

-- whether block k of w digits has index i
abbrev in_block : ℕ → ℕ → ℕ → Bool
in_block w k i = nat_le (k * w) i && ltb i (k * w + w)

module _ (w k m : ℕ) (values : List Bool) (digits : (j : ℕ) → j < w → is_one m j ≡ get_or values (k * w + j) false) where
  -- the ones of block k are its members
  pub has-block : (i : ℕ) → has (ones w (k * w) m) i ≡ (in_block w k i && has (elements values) i)
  has-block i =
      ⊎_elim
      (λ (low : i < k * w). has-ones-below w (k * w) m i low ∙ grind (arith, nat_tests, low))
      (λ (from : k * w ≤ i).
      let j : ℕ = i - k * w in
      let at : k * w + j ≡ i = omega (arith, from) in
      let here = λ (within : j < w). digits j within ∙ ap (λ n. get_or values n false) at ∙ sym (has-elements values i) in
      has-ones w (k * w) m i from ∙ grind (arith, nat_tests, from, at, here))
      (cases_lt i (k * w))

  module _ (n next : ℕ) (on : n ≤ k * w) (to : next ≡ min (k * w + w) (2 ^ 64 - 1)) (fits : length values ≤ 2 ^ 64 - 1) where
    -- the members from n on are those of the block and the ones past it, where there are none before it
    pub from_block : ((i : ℕ) → n ≤ i → i < k * w → has (elements values) i ≡ false) → those_from (elements values) n ≡ ones w (k * w) m ++ those_from (elements values) next
    from_block none =
        let s = elements values in
        let up = IsAscending-elements values in
        let xs = ones w (k * w) m in
        same_members (those_from s n) (xs ++ those_from s next) (AscendsFrom-filter 0 (λ y. nat_le n y) s up)
        (AscendsFrom-joined 0 next xs (those_from s next) (omega arith) (AscendsFrom-lower (k * w) 0 xs (omega arith) (AscendsFrom-indexes w (k * w) m [])) (λ i is.
        let past = has-past values i in grind (arith, nat_tests, has-block i, is, past, to, fits))
        (AscendsFrom-those_from 0 next s up))
        (λ i.
        let left = has-filter (λ y. nat_le n y) s i in
        let right = has-filter (λ y. nat_le next y) s i in
        let both = list_any-append (λ y. eqb y i) xs (those_from s next) in
        let past = has-past values i in
        let between = none i in
        grind (arith, nat_tests, left, right, both, has-block i, past, between, on, to, fits))

    module _ (m' : ℕ) (left : List Bool) (keeps : KeepsInBlock w k m' values left) (fewer : (i : ℕ) → has (ones w (k * w) m') i ≡ true → has (ones w (k * w) m) i ≡ true) (pos : 0 < w) where
      -- which indexes stay
      abbrev stays : ℕ → Bool
      stays i = not (in_block w k i) || is_one m' (i - k * w)

      read : (i : ℕ) → get_or left i false ≡ (stays i && get_or values i false)
      read i =
          ⊎_elim
          (λ (low : i < k * w). keeps.others i (λ e. let parts = div-add-mod' i w in let same = ap (λ q. q * w) e in omega (arith, low, parts, same)) ∙ grind (arith, nat_tests, low))
          (λ (from : k * w ≤ i).
          ⊎_elim
          (λ (within : i < k * w + w).
          let j : ℕ = i - k * w in
          let at : k * w + j ≡ i = omega (arith, from) in
          ap (λ x. get_or left x false) (sym at)
          ∙ keeps.inside j (omega (arith, within, from))
          ∙ ap (λ x. get_or values x false && is_one m' j) at
          ∙ grind (arith, nat_tests, from, within))
          (λ (past : k * w + w ≤ i).
          keeps.others i (λ e. let parts = div-add-mod' i w in let most = mod-lt i pos in let same = ap (λ q. q * w) e in omega (arith, past, parts, most, same)) ∙ grind (arith, nat_tests, past))
          (cases_lt i (k * w + w)))
          (cases_lt i (k * w))

      left_filtered : elements left ≡ filter stays (elements values)
      left_filtered = elements-kept stays values left read

      -- past the block all members stayed
      rest_same : those_from (elements left) next ≡ those_from (elements values) next
      rest_same =
          same_members _ _ (AscendsFrom-filter 0 (λ y. nat_le next y) (elements left) (IsAscending-elements left))
          (AscendsFrom-filter 0 (λ y. nat_le next y) (elements values) (IsAscending-elements values)) (λ i.
          let a = has-filter (λ y. nat_le next y) (elements left) i in
          let b = has-filter (λ y. nat_le next y) (elements values) i in
          let value : has (elements left) i ≡ (stays i && has (elements values) i) = has-elements left i ∙ read i ∙ ap (λ x. stays i && x) (sym (has-elements values i)) in
          let past = has-past values i in
          grind (arith, nat_tests, a, b, value, past, to, fits))

      -- in the block those of the other block
      block_kept : filter stays (ones w (k * w) m) ≡ ones w (k * w) m'
      block_kept =
          same_members_from (k * w) _ (ones w (k * w) m') (AscendsFrom-filter (k * w) stays (ones w (k * w) m) (AscendsFrom-indexes w (k * w) m [])) (AscendsFrom-indexes w (k * w) m' []) (λ i.
          let a = has-filter stays (ones w (k * w) m) i in
          let sub = fewer i in
          ⊎_elim
          (λ (low : i < k * w). a ∙ grind (arith, nat_tests, low, has-ones-below w (k * w) m i low, has-ones-below w (k * w) m' i low))
          (λ (from : k * w ≤ i). a ∙ grind (arith, nat_tests, from, has-ones w (k * w) m i from, has-ones w (k * w) m' i from, sub))
          (cases_lt i (k * w)))

      -- and before it all
      pub left_parts : (front : List ℕ) → those_from (elements values) n ≡ ones w (k * w) m ++ those_from (elements values) next
          → elements values ≡ front ++ ones w (k * w) m ++ those_from (elements values) next → elements left ≡ front ++ ones w (k * w) m' ++ those_from (elements left) next
      left_parts front others is =
          let s = elements values in
          let xs = ones w (k * w) m in
          let rest = those_from s next in
          let whole : s ≡ front ++ (xs ++ rest) = is ∙ append_assoc front xs rest in
          let up = subst IsAscending whole (IsAscending-elements values) in
          let before = λ (i : ℕ) (member : has front i ≡ true).
          (let apart = parts_apart 0 front (xs ++ rest) i up member in
          let there : has (xs ++ rest) i ≡ (nat_le n i && has s i) = sym (ap (λ t. has t i) others) ∙ has-filter (λ y. nat_le n y) s i in
          let all : has s i ≡ (has front i || has (xs ++ rest) i) = ap (λ t. has t i) whole ∙ list_any-append (λ y. eqb y i) front (xs ++ rest) in
          let low : stays i ≡ true = grind (arith, nat_tests, apart, there, all, member, on) in
          low) in
          let after = λ (i : ℕ) (member : has rest i ≡ true).
          (let here = has-filter (λ y. nat_le next y) s i in
          let past = has-past values i in
          let high : stays i ≡ true = grind (arith, nat_tests, here, past, member, to, fits) in
          high) in
          left_filtered
          ∙ ap (filter stays) is
          ∙ filter-append stays (front ++ xs) rest
          ∙ ap₂ (λ a b. a ++ b) (filter-append stays front xs ∙ ap₂ (λ a b. a ++ b) (kept_all stays front before) block_kept) (kept_all stays rest after ∙ sym rest_same)

-- a block was tested, and the members from there on are next
pub retained-block : {P : Type 0} (R : P → ℕ → Bool → P → Type 0) (w k m m' n next : ℕ) (values left : List Bool) (p : P) (old : List ℕ) (q r : P)
    → 0 < w → ((j : ℕ) → j < w → is_one m j ≡ get_or values (k * w + j) false)
    → n ≤ k * w → next ≡ min (k * w + w) (2 ^ 64 - 1) → length values ≤ 2 ^ 64 - 1 → ((i : ℕ) → n ≤ i → i < k * w → has (elements values) i ≡ false)
    → HasTested R p old q (elements values) (those_from (elements values) n) → HasTested R q (ones w (k * w) m) r (ones w (k * w) m') [] → KeepsInBlock w k m' values left
    → HasTested R p old r (elements left) (those_from (elements left) next)
retained-block R w k m m' n next values left p old q r pos digits on to fits none before after keeps =
    let xs = ones w (k * w) m in
    let all : after.tested ≡ xs = sym (after.whole ∙ append-nil after.tested) in
    let kept : ones w (k * w) m' ≡ items_where_true after.answers after.tested = after.kept ∙ append-nil (items_where_true after.answers after.tested) in
    let fewer = λ (i : ℕ) (member : has (ones w (k * w) m') i ≡ true). ap (λ s. has s i) (sym all) ∙ has-kept after.answers after.tested i (ap (λ s. has s i) (sym kept) ∙ member) in
    let others = from_block w k m values digits n next on to fits none in
    let same = rest_same w k m values digits n next on to fits m' left keeps fewer pos in
    tested-some R p old q (elements values) (those_from (elements values) n) xs (ones w (k * w) m')
    (those_from (elements left) next) r (elements left) before after (others ∙ ap (λ s. xs ++ s) (sym same))
    (λ front is. left_parts w k m values digits n next on to fits m' left keeps fewer pos front others (is ∙ ap (λ s. front ++ xs ++ s) same))

-- the block after one begins at or past it, whatever comes from there on is in it or past it
pub next_at_block : (w k next : ℕ) → 0 < w → next ≡ min (k * w + w) (2 ^ 64 - 1) → next < 2 ^ 64 - 1 → (i : ℕ) → next ≤ i → next ≤ i / w * w
next_at_block w k next pos to below i past =
    let whole : next ≡ (k + 1) * w = omega (arith, to, below) in
    let later : k + 1 ≤ i / w = block_past w (k + 1) i pos (omega (arith, whole, past)) in
    omega (arith, whole, mul-le-mul_right w later)

pub positive : (n : ℕ) → (n ≡ 0 → false ≡ true) → 0 < n
positive zero none = absurd (false≢true (none refl))
positive (suc n) none = omega arith

-- ---- which calls of a test that stays as it was tell what is kept

module _ {P : Type 0} (R : P → ℕ → Bool → P → Type 0) (p : P) (stays : (x : ℕ) (b : Bool) (q : P) → R p x b q → q ≡ p) where
  abbrev IsAsked : ℕ → Bool → Bool → Type 0
  IsAsked n was is = MatchBool was (R p n is p) (is ≡ false)

  asked_here : (n : ℕ) (was is b : Bool) → was ≡ true → is ≡ b → R p n b p → IsAsked n was is
  asked_here n true is b member same met = subst (λ c. R p n c p) (sym same) met
  asked_here n false is b member same met = absurd (false≢true member)

  asked_there : (n : ℕ) (was is was' is' : Bool) → was ≡ was' → is ≡ is' → IsAsked n was' is' → IsAsked n was is
  asked_there n was is was' is' before after asked = subst (λ c. IsAsked n c is) (sym before) (subst (λ c. IsAsked n was' c) (sym after) asked)

  asked_from : (low : ℕ) (bs : List Bool) (xs : List ℕ) (q : P) → AscendsFrom low xs → length bs ≡ length xs → ReturnsInTurn R p bs xs q
      → (n : ℕ) → IsAsked n (has xs n) (has (items_where_true bs xs) n)
  asked_from low [] [] q up long ran n = refl
  asked_from low [] (x ∷ xs) q up long ran n = absurd (omega (arith, long))
  asked_from low (b ∷ bs) [] q up long ran n = absurd (omega (arith, long))
  asked_from low (b ∷ bs) (x ∷ xs) q up long (next, met, ran) n =
      let rest = asked_from (x + 1) bs xs q up.1 (omega (arith, long)) (subst (λ j. ReturnsInTurn R j bs xs q) (stays x b next met) ran) n in
      let past = has-below (x + 1) xs n up.1 in
      let kept_past = has-kept bs xs n in
      elim (cases_eq x n) [
        | inl same ↦ asked_here n (has (x ∷ xs) n) (has (items_where_true (b ∷ bs) (x ∷ xs)) n) b (grind (arith, nat_tests))
            (grind (arith, nat_tests)) (subst (λ m. R p m b p) same (subst (λ j. R p x b j) (stays x b next met) met))
        | inr other ↦ asked_there n (has (x ∷ xs) n) (has (items_where_true (b ∷ bs) (x ∷ xs)) n) (has xs n) (has (items_where_true bs xs) n) (grind (arith, nat_tests)) (grind (arith, nat_tests)) rest
      ]

  pub asked_each : (old new : List ℕ) → IsAscending old → IsFiltered R p old new → (n : ℕ) → IsAsked n (has old n) (has new n)
  asked_each old new up (bs, q, long, ran, kept) n = subst (λ s. IsAsked n (has old n) (has s n)) (sym kept) (asked_from 0 bs old q up long ran n)
