-- What the runs of a set are, and how one after another is found.
use Rattle.std.proofs.Common.{◌≡◌, ℕ, zero, suc, ◌+◌, ◌-◌, ◌<◌, ◌≤◌, Bool, true, false, not, ◌*◌, ◌/◌, ◌&&◌, ◌||◌, eqb, nat_le, List, [], ◌∷◌, ◌++◌, Some, None, length, refl, sym, ap, ap₂}
use Rattle.std.proofs.Common.{◌∙◌, arith}
use Rattle.std.{proofs.iter.runs.Sources.{from_front, as_is}, specs.Iterator.Runs.YieldsInOrder}
use Rattle.std.proofs.lemmas.{Bool.{Decides.nat_tests}, List.Folds.list_any-append}
use Rattle.std.specs.{List.range_with_len, declared.ops.Range.Range}
use Rattle.bit_blocks.specs.Ranges.{in_range}
use Rattle.set_algebra.specs.{Members.TakesLeast, Ranges.{span, those_in_range}}
use Rattle.set_algebra.specs.{Runs.{AreApartFrom, AreRuns, IsFirstRun, PassesRun, RunsWalk, in_ranges, put_before, runs_of}, Sets.{AscendsFrom, IsAscending, elements, has, those_from}}
use Rattle.set_algebra.proofs.RangeLemmas.{AscendsFrom-joined, AscendsFrom-those_from, IsAscending-span, has-span}
use Rattle.set_algebra.proofs.{SetLemmas.{AscendsFrom-filter, AscendsFrom-lower, IsAscending-elements, has-filter, same_members}, ValueLemmas.has-past}

-- ---- what they are

apart_before : (low n : ℕ) (rs : List (Range ℕ)) → low ≤ n → AreApartFrom (n + 1) rs → AreApartFrom low (put_before n rs)
apart_before low n [] le apart = (le, omega arith, tt)
apart_before low n (r ∷ rs) le apart = grind (arith, nat_tests)

in_before : (n m : ℕ) (rs : List (Range ℕ)) → AreApartFrom (n + 1) rs → in_ranges (put_before n rs) m ≡ (eqb n m || in_ranges rs m)
in_before n m [] apart = grind (arith, nat_tests)
in_before n m (r ∷ rs) apart = grind (arith, nat_tests)

apart_from : (low : ℕ) (s : List ℕ) → AscendsFrom low s → AreApartFrom low (runs_of s)
apart_from low [] up = tt
apart_from low (x ∷ xs) up = apart_before low x (runs_of xs) up.0 (apart_from (x + 1) xs up.1)

in_runs : (low : ℕ) (s : List ℕ) (n : ℕ) → AscendsFrom low s → in_ranges (runs_of s) n ≡ has s n
in_runs low [] n up = refl
in_runs low (x ∷ xs) n up = in_before x n (runs_of xs) (apart_from (x + 1) xs up.1) ∙ ap (λ b. eqb x n || b) (in_runs (x + 1) xs n up.1)

pub runs_are : (s : List ℕ) → IsAscending s → AreRuns s (runs_of s)
runs_are s up = record { members = λ n. in_runs 0 s n up; apart = apart_from 0 s up }

-- ---- the first of them

alone : (n : ℕ) (rs : List (Range ℕ)) → AreApartFrom (n + 2) rs → put_before n rs ≡ record { start = n; end = n + 1 } ∷ rs
alone n [] apart = refl
alone n (r ∷ rs) apart = grind (arith, nat_tests)

before_touching : (a b c : ℕ) (rs : List (Range ℕ)) → a + 1 ≡ b → put_before a (record { start = b; end = c } ∷ rs) ≡ record { start = a; end = c } ∷ rs
before_touching a b c rs e = grind (arith, nat_tests, e)

runs-span : (k a end : ℕ) (t : List ℕ) → end ≡ a + k + 1 → AscendsFrom (end + 1) t → runs_of (range_with_len a (suc k) ++ t) ≡ record { start = a; end = end } ∷ runs_of t
runs-span zero a end t e up =
    alone a (runs_of t) (apart_from (a + 2) t (AscendsFrom-lower (end + 1) (a + 2) t (omega (arith, e)) up))
    ∙ ap (λ n. record { start = a; end = n } ∷ runs_of t) (let last : a + 1 ≡ end = omega (arith, e) in last)
runs-span (suc k) a end t e up =
    ap (put_before a) (runs-span k (a + 1) end t (omega (arith, e)) up) ∙ before_touching a (a + 1) end (runs_of t) refl

AscendsFrom-past : (m : ℕ) (s : List ℕ) → AscendsFrom m s → has s m ≡ false → AscendsFrom (m + 1) s
AscendsFrom-past m [] up out = tt
AscendsFrom-past m (x ∷ xs) up out = (grind (arith, nat_tests, up.0, out), up.1)

pub runs_from_first : (s t : List ℕ) (a b : ℕ) → IsAscending s → IsFirstRun s (record { start = a; end = b }) → t ≡ those_from s b → runs_of s ≡ record { start = a; end = b } ∷ runs_of t
unfolding span
runs_from_first s t a b up first rest =
    let k = b - a - 1 in
    let long : b - a ≡ suc k = omega (arith, first.some) in
    let other = those_from s b in
    let from = AscendsFrom-those_from 0 b s up in
    let ascends : AscendsFrom (b + 1) other = AscendsFrom-past b other from (has-filter (λ x. nat_le b x) s b ∙ grind (arith, nat_tests, first.past)) in
    let parts : s ≡ span a b ++ other =
    same_members s _ up (AscendsFrom-joined 0 b (span a b) other (omega arith) (IsAscending-span a b) (λ n is. grind (arith, nat_tests, has-span a b n, is)) from)
    (λ n. grind (arith, nat_tests, list_any-append (λ m. eqb m n) (span a b) other, has-span a b n, has-filter (λ x. nat_le b x) s n, first.all n, first.before n)) in
    ap runs_of parts
    ∙ ap (λ n. runs_of (range_with_len a n ++ other)) long
    ∙ runs-span k a b other (omega (arith, first.some)) ascends
    ∙ ap (λ u. record { start = a; end = b } ∷ runs_of u) (sym rest)

-- ---- how it is found, in the range from `start` to `end` of the set s

module _ (s : List ℕ) (start end : ℕ) (up : IsAscending s) where
  -- the first member there, and what is not in from there on
  module _ (missing : List ℕ) (first : ℕ) (out : (n : ℕ) → has missing n ≡ (in_range first end n && not (has s n))) (t : List ℕ) (least : TakesLeast (those_in_range s start end) first t) where
    pub ends_before : (x : ℕ) (u : List ℕ) → TakesLeast missing x u → IsFirstRun (those_in_range s start end) (record { start = first; end = x })
    ends_before x u next = record {
      some = grind (arith, nat_tests, has-filter (in_range start end) s first, least.is_in, out x, out first, next.is_in);
      all = λ n from below. grind (arith, nat_tests, has-filter (in_range start end) s first, least.is_in, has-filter (in_range start end) s n, out n, out x, next.is_in, next.least n, from, below);
      before = λ n below. grind (arith, nat_tests, least.least n, below);
      past = grind (arith, nat_tests, has-filter (in_range start end) s x, out x, next.is_in);
    }

    pub ends_with_range : missing ≡ [] → IsFirstRun (those_in_range s start end) (record { start = first; end = end })
    ends_with_range none = let no = λ (n : ℕ). ap (λ ms. has ms n) none in record {
      some = grind (arith, nat_tests, has-filter (in_range start end) s first, least.is_in);
      all = λ n from below. grind (arith, nat_tests, has-filter (in_range start end) s first, least.is_in, has-filter (in_range start end) s n, out n, no n, from, below);
      before = λ n below. grind (arith, nat_tests, least.least n, below);
      past = grind (arith, nat_tests, has-filter (in_range start end) s end);
    }

    pub starts_within : start ≤ first
    starts_within = grind (arith, nat_tests, has-filter (in_range start end) s first, least.is_in)

  rest_of_part : (past n : ℕ) → start ≤ past → has (those_in_range s past end) n ≡ (nat_le past n && has (those_in_range s start end) n)
  rest_of_part past n on = grind (arith, nat_tests, has-filter (in_range past end) s n, has-filter (in_range start end) s n, on)

  pub passes_run : (first past : ℕ) (a t : RunsWalk)
      → record { members = those_in_range s start end; start = start; end = end } ≡ a
      → t ≡ record { members = those_in_range s past end; start = past; end = end } → start ≤ first
      → IsFirstRun (those_in_range s start end) (record { start = first; end = past })
      → PassesRun a (Some (record { start = first; end = past })) t
  passes_run first past a t old new on run =
      let rest = λ (n : ℕ). rest_of_part past n (omega (arith, on, run.some)) in
      let kept : those_in_range s past end ≡ those_from (those_in_range s start end) past = same_members _ _ (AscendsFrom-filter 0 _ s up)
      (AscendsFrom-filter 0 _ _ (AscendsFrom-filter 0 _ s up)) (λ n. rest n ∙ sym (has-filter (λ x. nat_le past x) (those_in_range s start end) n)) in
      rw (← old, new) (record {
        item = runs_from_first (those_in_range s start end) _ first past (AscendsFrom-filter 0 _ s up) run kept;
        first = run;
        rest = rest;
        start = refl;
        end = refl;
      })

  pub passes_no_run : (a t : RunsWalk)
      → record { members = those_in_range s start end; start = start; end = end } ≡ a
      → t ≡ record { members = those_in_range s end end; start = end; end = end } → those_in_range s start end ≡ []
      → PassesRun a None t
  passes_no_run a t old new none =
      let ended : those_in_range s end end ≡ [] = same_members _ [] (AscendsFrom-filter 0 _ s up) tt (λ n. grind (arith, nat_tests, has-filter (in_range end end) s n)) in
      rw (← old, new) (record {
        item = (ap runs_of none, ap runs_of ended);
        first = λ n. ap (λ ms. has ms n) none;
        rest = λ n. ap (λ ms. has ms n) ended;
        start = refl;
        end = refl;
      })

-- each call gives the first of the runs that are left
pub runs_in_order : YieldsInOrder PassesRun (λ walk. runs_of walk.members)
runs_in_order p s = as_is p (runs_of p.from.members) (from_front PassesRun (λ x. x) (λ walk. runs_of walk.members) (λ s t h. ap length h.item.0) (λ s x t h. h.item) p s)

-- the range up to the length has all members
pub whole_range : (values : List Bool) → those_in_range (elements values) 0 (length values) ≡ elements values
whole_range values =
    same_members _ _ (AscendsFrom-filter 0 _ _ (IsAscending-elements values)) (IsAscending-elements values)
    (λ n. has-filter (in_range 0 (length values)) (elements values) n ∙ grind (arith, nat_tests, has-past values n))

-- ---- how many there are

few_from : (low b : ℕ) (rs : List (Range ℕ)) → AreApartFrom low rs → ((n : ℕ) → in_ranges rs n ≡ true → n < b)
    → length rs * 2 ≤ b + 1 - low
few_from low b [] apart below = omega arith
few_from low b (r ∷ rs) apart below =
    let last : r.end - 1 < b = below (r.end - 1) (grind (arith, nat_tests, apart.1)) in
    let rest = few_from (r.end + 1) b rs apart.2 (λ n is. below n (grind (arith, is))) in
    omega (arith, apart.0, apart.1, last, rest)

few_in : (a b : ℕ) (rs : List (Range ℕ)) → AreApartFrom 0 rs → ((n : ℕ) → in_ranges rs n ≡ true → (a ≤ n) × (n < b))
    → length rs * 2 ≤ b + 1 - a
few_in a b [] apart within = omega arith
few_in a b (r ∷ rs) apart within =
    let first = within r.start (grind (arith, nat_tests, apart.1)) in
    few_from a b (r ∷ rs) (first.0, apart.1, apart.2) (λ n is. (within n is).1)

-- between two of them in a range is a number that is in neither
pub few_runs : (s : List ℕ) (a b : ℕ) → IsAscending s → length (runs_of (those_in_range s a b)) ≤ (b - a + 1) / 2
few_runs s a b up =
    let part = those_in_range s a b in
    let few = few_in a b (runs_of part) (apart_from 0 part (AscendsFrom-filter 0 _ s up)) (λ n is.
    let member = sym (has-filter (in_range a b) s n) ∙ sym (in_runs 0 part n (AscendsFrom-filter 0 _ s up)) ∙ is in
    grind (arith, nat_tests, member)) in
    omega (arith, few)

-- ---- no others are the runs

in_none_below : (low : ℕ) (rs : List (Range ℕ)) (n : ℕ) → AreApartFrom low rs → n < low → in_ranges rs n ≡ false
in_none_below low [] n apart below = refl
in_none_below low (r ∷ rs) n apart below = let rest = in_none_below (r.end + 1) rs n apart.2 in grind (arith, nat_tests)

same_ranges : (low : ℕ) (rs qs : List (Range ℕ)) → AreApartFrom low rs → AreApartFrom low qs → ((n : ℕ) → in_ranges rs n ≡ in_ranges qs n) → rs ≡ qs
same_ranges low [] [] left right same = refl
same_ranges low [] (q ∷ qs) left right same = let here = same q.start in grind (arith, nat_tests)
same_ranges low (r ∷ rs) [] left right same = let here = same r.start in grind (arith, nat_tests)
same_ranges low (r ∷ rs) (q ∷ qs) left right same =
    let past_r = λ (n : ℕ). in_none_below (r.end + 1) rs n left.2 in
    let past_q = λ (n : ℕ). in_none_below (q.end + 1) qs n right.2 in
    let starts : r.start ≡ q.start = grind (arith, nat_tests, same r.start, same q.start, past_r q.start, past_q r.start, left.1, right.1) in
    let ends : r.end ≡ q.end = grind (arith, nat_tests, starts, same r.end, same q.end, past_r r.end, past_q q.end, past_r q.end, past_q r.end, left.1, right.1) in
    let tails = same_ranges (r.end + 1) rs qs left.2 (rw ends right.2) (λ n. grind (arith, nat_tests, starts, ends, same n, past_r n, past_q n)) in
    ap₂ (λ x xs. x ∷ xs) (ap₂ (λ a b. record { start = a; end = b }) starts ends) tails

pub only_runs : (s : List ℕ) (rs : List (Range ℕ)) → IsAscending s → AreRuns s rs → rs ≡ runs_of s
only_runs s rs up are = same_ranges 0 rs (runs_of s) are.apart (apart_from 0 s up) (λ n. are.members n ∙ sym (in_runs 0 s n up))

pub ruleset runs_of_sets = (runs_are, only_runs)
