-- What a growth in blocks makes of a list and its capacity for values.
use Rattle.std.proofs.{Common.{◌≡◌, ℕ, ◌^◌, ◌<◌, ◌≤◌, max, List, map, length, refl, sym, ap, ap₂, ◌∙◌, arith, Ok, Err, Result, OnErr, OnOk}, lemmas.Result.on_err_weaker}
use Rattle.bit_blocks.specs.{Bits.{Bits, IsWithinCapacity, blocks_for, capacity_of}, Storage.values_of}
use Rattle.bit_words.{specs.{Growth.{Grows, Reserves}, Summary.{shared_capacity, IsStoredList}}, proofs.CapacityLemmas.capacity_le}
use Rattle.bit_blocks.proofs.VectorLemmas.{blocks_from_capacity, capacity_from_view, capacity_of-short, is_within_capacity, le-capacity_of}
use Rattle.bit_words.proofs.SummaryLemmas.{stored_within}

-- ---- capacity for blocks

pub Reserves-le : {E : Type 0} (count old new : ℕ) (r : Result Unit E) → Reserves count r old new → old ≤ new
Reserves-le count old new r is = grind (arith, is.ok, is.err, is.within)

-- where it is there, nothing is asked for
pub Reserves-within : {E : Type 0} (count old : ℕ) → count ≤ old → Reserves {E = E} count (Ok tt) old old
Reserves-within count old enough = record { ok = enough; full = tt; err = tt; within = λ _. refl }

-- where it is missing, just so much is asked for
pub Reserves-exact : {E : Type 0} (count old new : ℕ) (r : Result Unit E) → OnOk r (new ≡ max old count) → OnErr r (old < count) → OnErr r (new ≡ old) → Reserves count r old new
Reserves-exact count old new r most full same = grind (arith, most, full, same)

-- ---- and for values

pub stored_within_capacity : {X : Type 0} {start : ℕ} (w n blocks summary : ℕ) (f : X → ℕ) (P : X → Type 0) (xs ss : List X)
    (v : Bits) → 0 < w → IsStoredList w f P xs ss n start → length xs ≤ blocks → length ss ≤ summary
    → record { values = values_of w (map f xs) n; capacity = capacity_of w (shared_capacity w blocks summary) } ≡ v
    → IsWithinCapacity v
stored_within_capacity w n blocks summary f P xs ss v pos stored first second e =
    is_within_capacity w n (shared_capacity w blocks summary) f P xs v pos stored.packed (stored_within w n blocks summary f P xs ss pos stored first second) e

-- a list that grew to n values, in as many blocks as they take
grows : {E : Type 0} (w n count blocks new_blocks : ℕ) (r : Result Unit E) (old new : Bits) → 0 < w → n < 2 ^ 64 → count ≡ blocks_for w n → old.capacity ≡ capacity_of w blocks
    → new.capacity ≡ capacity_of w new_blocks → length old.values ≤ old.capacity → OnErr r (new ≡ old) → Reserves count r blocks new_blocks → Grows n r old new
grows w n count blocks new_blocks (Ok _) old new pos fits is was becomes holds same made =
    let more = Reserves-le count blocks new_blocks (Ok tt) made in
    record {
      succeeds = λ _. refl;
      within = λ enough.
          let least = blocks_from_capacity w blocks n pos (rw was at enough) in
          becomes ∙ ap (capacity_of w) (made.within (omega (arith, is, least))) ∙ sym was;
      ok = rw becomes (le-capacity_of w new_blocks n pos fits (omega (arith, is, made.ok)));
      full = tt;
      err = tt;
      capacity = rw (was, becomes) (capacity_le w blocks new_blocks more);
      holds_values = holds;
    }
grows w n count blocks new_blocks (Err _) old new pos fits is was becomes holds same made =
    let short : old.capacity < n = rw was (capacity_of-short w blocks n pos (omega (arith, is, made.full))) in
    record {
      succeeds = λ enough. absurd (omega (arith, short, enough));
      within = λ _. ap (λ v. v.capacity) same;
      ok = tt;
      full = short;
      err = same;
      capacity = omega (arith, ap (λ (v : Bits). v.capacity) same);
      holds_values = holds;
    }

module _ {X E : Type 0} (w n len m count blocks summary new_blocks : ℕ) (r : Result Unit E) (f : X → ℕ) (P : X → Type 0) (xs ss : List X) (old : Bits) where
  pub Grows-blocks : {start : ℕ}
      (new : Bits) → 0 < w → IsStoredList w f P xs ss m start → length xs ≤ blocks → length ss ≤ summary
      → record { values = values_of w (map f xs) m; capacity = capacity_of w (shared_capacity w blocks summary) } ≡ old
      → n < 2 ^ 64 → count ≡ blocks_for w len → len ≡ n → new.capacity ≡ capacity_of w new_blocks → OnErr r (new ≡ old) → Reserves count r
      (shared_capacity w blocks summary) new_blocks → Grows n r old new
  Grows-blocks new pos stored first second view fits is e becomes same made =
      grows w n count (shared_capacity w blocks summary) new_blocks r old new pos fits (is ∙ ap (blocks_for w) e) (capacity_from_view _ _ _ view) becomes
      (stored_within_capacity w m blocks summary f P xs ss old pos stored first second view).holds_values same made

  -- one whose blocks stay
  pub Grows-kept : {start : ℕ}
      (ys : List X) → 0 < w → IsStoredList w f P xs ss m start → length xs ≤ blocks → length ss ≤ summary
      → record { values = values_of w (map f xs) m; capacity = capacity_of w (shared_capacity w blocks summary) } ≡ old
      → n < 2 ^ 64 → count ≡ blocks_for w len → len ≡ n → ys ≡ xs → Reserves count r (shared_capacity w blocks summary) new_blocks → Grows n r old
      (record { values = values_of w (map f ys) m; capacity = capacity_of w new_blocks })
  Grows-kept ys pos stored first second view fits is e same made =
      let bits : List X → ℕ → Bits = λ zs capacity. record { values = values_of w (map f zs) m; capacity = capacity_of w capacity } in
      Grows-blocks (bits ys new_blocks) pos stored first second view fits is e refl
      (on_err_weaker r (λ (stays : new_blocks ≡ shared_capacity w blocks summary). ap₂ bits same stays ∙ view) made.err) made
