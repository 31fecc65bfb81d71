-- What runs of calls on slots come to.
use Rattle.std.proofs.Common.{◌≡◌, ℕ, ◌+◌, ◌<◌, ◌≤◌, ◌↔◌, Bool, true, false, not, ◌||◌, ◌&&◌, ◌==◌, nat_le, nat_lt}
use Rattle.std.proofs.Common.{if◌then◌else◌, List, [], ◌∷◌, ◌++◌, Some, None, refl, sym, ap, ◌∙◌, arith}
use Rattle.std.proofs.lemmas.Bool.{Decides.nat_tests}
use Rattle.bit_set.specs.Sets.{has, put, without}
use Rattle.free_slots.specs.Slots.{SlotTable, IsFreeRun, IsLowestFree, all_free, is_taken, without_run}
use Rattle.free_slots.specs.Runs.{Event, Happens, IsHeld, IsLowestUnheld, IsUnheldRun, Run, times_given, times_taken}
use Rattle.free_slots.{specs.Runs.Event.{GiveBack, Take, TakeRun}, proofs.SlotLemmas.none_taken}

-- 1 where it is so
abbrev ones : Bool → ℕ
ones b = if b then 1 else 0

left : (slot : ℕ) → {s t : SlotTable} → s ≡ t → ones (is_taken s slot) ≡ ones (is_taken t slot)
left slot same = ap (λ u. ones (is_taken u slot)) same

keeps_len : (s t : SlotTable) (es : List Event) → Run s es t → t.len ≡ s.len
keeps_len s t [] run = ap (λ u. u.len) run
keeps_len s t (Take from (Some k) ∷ es) run = keeps_len run.0 t es run.2 ∙ ap (λ u. u.len) run.1.1
keeps_len s t (Take from None ∷ es) run = keeps_len run.0 t es run.2 ∙ ap (λ u. u.len) run.1.1
keeps_len s t (GiveBack k true ∷ es) run = keeps_len run.0 t es run.2 ∙ ap (λ u. u.len) run.1.1
keeps_len s t (GiveBack k false ∷ es) run = keeps_len run.0 t es run.2 ∙ ap (λ u. u.len) run.1.1
keeps_len s t (TakeRun count (Some k) ∷ es) run = keeps_len run.0 t es run.2 ∙ ap (λ u. u.len) run.1.1
keeps_len s t (TakeRun count None ∷ es) run = keeps_len run.0 t es run.2 ∙ ap (λ u. u.len) run.1.1

pub parts : (s t : SlotTable) (before after : List Event) → Run s (before ++ after) t → (mid : SlotTable) × Run s before mid × Run mid after t
parts s t [] after run = (s, refl, run)
parts s t (e ∷ es) after run =
    let further = parts run.0 t es after run.2 in
    (further.0, (run.0, run.1, further.1), further.2)

-- `give_back` returns whether the slot was taken
answered : (s : SlotTable) (slot : ℕ) (result : Bool) (next : SlotTable) → Happens s (GiveBack slot result) next → is_taken s slot ≡ result
answered s slot true next is = is.0
answered s slot false next is = is.0

module _ (has_put : (s : List ℕ) (n m : ℕ) → has (put s n) m ≡ (n == m || has s m)) (has_without : (s : List ℕ) (n m : ℕ) → has (without s n) m ≡ (not (n == m) && has s m))
    (has_without_run : (s : List ℕ) (first count m : ℕ) → has (without_run s count first) m ≡ (has s m && not (nat_le first m && nat_lt m (first + count)))) where
  took : (s : SlotTable) (from k slot : ℕ) → IsLowestFree s from k → (if k == slot then 1 else 0) + ones (is_taken s slot) ≡ ones (is_taken (record { len = s.len; free = without s.free k }) slot)
  took s from k slot is = grind (arith, nat_tests, has_without s.free k slot, is.free, is.inside)

  gave : (s : SlotTable) (k slot : ℕ) → is_taken s k ≡ true → ones (is_taken s slot) ≡ (if k == slot then 1 else 0) + ones (is_taken (record { len = s.len; free = put s.free k }) slot)
  gave s k slot is = grind (arith, nat_tests, has_put s.free k slot, is)

  took_run : (s : SlotTable) (count first slot : ℕ) → IsFreeRun s count first
      → (if nat_le first slot && nat_lt slot (first + count) then 1 else 0) + ones (is_taken s
      slot) ≡ ones (is_taken (record { len = s.len; free = without_run s.free count first }) slot)
  took_run s count first slot is = grind (arith, nat_tests, has_without_run s.free count first slot, is.free slot, is.inside)

  -- a slot is taken once more than it is given back, just where it is taken at the end
  balance : (slot : ℕ) (s t : SlotTable) (es : List Event) → Run s es t → times_taken slot es + ones (is_taken s slot) ≡ times_given slot es + ones (is_taken t slot)
  balance slot s t [] run = omega (arith, left slot run)
  balance slot s t (Take from (Some k) ∷ es) run = omega (arith, took s from k slot run.1.0, balance slot run.0 t es run.2, left slot run.1.1)
  balance slot s t (Take from None ∷ es) run = omega (arith, balance slot run.0 t es run.2, left slot run.1.1)
  balance slot s t (GiveBack k true ∷ es) run = omega (arith, gave s k slot run.1.0, balance slot run.0 t es run.2, left slot run.1.1)
  balance slot s t (GiveBack k false ∷ es) run = omega (arith, balance slot run.0 t es run.2, left slot run.1.1)
  balance slot s t (TakeRun count (Some first) ∷ es) run = omega (arith, took_run s count first slot run.1.0.run, balance slot run.0 t es run.2, left slot run.1.1)
  balance slot s t (TakeRun count None ∷ es) run = omega (arith, balance slot run.0 t es run.2, left slot run.1.1)

  -- from all free on
  counts : (n slot : ℕ) (t : SlotTable) (es : List Event) → Run (all_free n) es t → times_taken slot es ≡ times_given slot es + ones (is_taken t slot)
  counts n slot t es run = omega (arith, balance slot (all_free n) t es run, ap ones (none_taken n slot))

  pub held_once : (n slot : ℕ) (t : SlotTable) (es : List Event) → Run (all_free n) es t → times_taken slot es ≤ times_given slot es + 1
  held_once n slot t es run = let most : ones (is_taken t slot) ≤ 1 = grind arith in omega (arith, counts n slot t es run, most)

  pub held_where_taken : (n slot : ℕ) (t : SlotTable) (es : List Event) → Run (all_free n) es t → IsHeld es slot ↔ (is_taken t slot ≡ true)
  held_where_taken n slot t es run =
      let all = counts n slot t es run in
      (λ held. grind (arith, nat_tests, all, held), λ is. omega (arith, all, ap ones is))

  -- ---- a call in a run

  pub lowest_unheld : (n from slot : ℕ) (t : SlotTable) (es later : List Event) → Run (all_free n) (es ++ Take from (Some slot) ∷ later) t → IsLowestUnheld n es from slot
  lowest_unheld n from slot t es later run =
      let (mid, before, call) = parts (all_free n) t es (Take from (Some slot) ∷ later) run in
      let is = call.1.0 in
      let len = keeps_len (all_free n) mid es before in
      record {
        free = λ held. let taken = (held_where_taken n slot mid es before).0 held in grind (arith, nat_tests, taken, is.free);
        inside = omega (arith, is.inside, len);
        above = is.above;
        lowest = λ other from below.
            (held_where_taken n other mid es before).1 (grind (arith, nat_tests, is.inside, below, is.lowest other from below));
      }

  pub held_where_full : (n from slot : ℕ) (t : SlotTable) (es later : List Event) → Run (all_free n) (es ++ Take from None ∷ later) t → from ≤ slot → slot < n → IsHeld es slot
  held_where_full n from slot t es later run above inside =
      let (mid, before, call) = parts (all_free n) t es (Take from None ∷ later) run in
      let len = keeps_len (all_free n) mid es before in
      (held_where_taken n slot mid es before).1 (grind (arith, nat_tests, inside, len, call.1.0 slot above))

  pub given_where_held : (n slot : ℕ) (result : Bool) (t : SlotTable) (es later : List Event) → Run (all_free n) (es ++ GiveBack slot result ∷ later) t → (result ≡ true) ↔ IsHeld es slot
  given_where_held n slot result t es later run =
      let (mid, before, call) = parts (all_free n) t es (GiveBack slot result ∷ later) run in
      let same : is_taken mid slot ≡ result = answered mid slot result call.0 call.1 in
      let held = held_where_taken n slot mid es before in
      (λ is. held.1 (same ∙ is), λ is. sym same ∙ held.0 is)

  -- ---- several slots in a row

  unheld_from_free : (n count first : ℕ) (mid : SlotTable) (es : List Event) → Run (all_free n) es mid → IsFreeRun mid count first → IsUnheldRun n es count first
  unheld_from_free n count first mid es before is =
      let len = keeps_len (all_free n) mid es before in
      record {
        unheld = λ slot from below held.
            let taken = (held_where_taken n slot mid es before).0 held in grind (arith, nat_tests, taken, is.free slot from below);
        inside = omega (arith, is.inside, len);
      }

  free_from_unheld : (n count first : ℕ) (mid : SlotTable) (es : List Event) → Run (all_free n) es mid → IsUnheldRun n es count first → IsFreeRun mid count first
  free_from_unheld n count first mid es before is =
      let len = keeps_len (all_free n) mid es before in
      record {
        free = λ slot from below.
            let held = (held_where_taken n slot mid es before).1 in
            let unheld = is.unheld slot from below in
            grind (arith, nat_tests, held, unheld, is.inside, len);
        inside = omega (arith, is.inside, len);
      }

  pub lowest_unheld_run : (n count first : ℕ) (t : SlotTable) (es later : List Event)
      → Run (all_free n) (es ++ TakeRun count (Some first) ∷ later) t
      → IsUnheldRun n es count first × ((other : ℕ) → other < first → IsUnheldRun n es count other → ⊥)
  lowest_unheld_run n count first t es later run =
      let (mid, before, call) = parts (all_free n) t es (TakeRun count (Some first) ∷ later) run in (
        unheld_from_free n count first mid es before call.1.0.run,
        λ other below unheld. call.1.0.lowest other below (free_from_unheld n count other mid es before unheld),
      )

  pub no_unheld_run : (n count first : ℕ) (t : SlotTable) (es later : List Event) → Run (all_free n) (es ++ TakeRun count None ∷ later) t → IsUnheldRun n es count first → ⊥
  no_unheld_run n count first t es later run unheld =
      let (mid, before, call) = parts (all_free n) t es (TakeRun count None ∷ later) run in
      call.1.0 first (free_from_unheld n count first mid es before unheld)
