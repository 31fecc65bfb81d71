-- What the calls of a walk over nonzero blocks cite: what a call that takes no end as a pull says of one that counts it,
-- and that indexes fit.
use Rattle.std.proofs.{Common.{◌≡◌, ℕ, ◌+◌, ◌-◌, ◌*◌, ◌^◌, ◌<◌, ◌≤◌, true, false, [], Option, None, Some, sym, ◌∙◌, mul-le-mul_right, arith}, lemmas.Bool.true≢false}
use Rattle.std.specs.Option.{is_some}
use Rattle.bit_words.specs.Nonzero.{Nonzeros, PullsLast, PullsNonzero, TakesFirst, TakesLast}

-- the index of the first bit of a block that there is
pub index_fits : (k n w b : ℕ) → b ≡ w → k < n → (n - 1) * w < 2 ^ 64 → k * b < 2 ^ 64
index_fits k n w b is within fits =
    let before = mul-le-mul_right w (let e : k ≤ n - 1 = omega (arith, within) in e) in
    rw is (omega (arith, before, fits))

-- ---- a pull at the front

module _ {X : Type 0} (s t : Nonzeros X) where
  pub pulled_some : (r : Option (ℕ × X)) → is_some r ≡ true → TakesFirst s r t → PullsNonzero s r t
  pulled_some None some takes = absurd (true≢false (sym some))
  pulled_some (Some entry) some takes = record { item = takes.item; same = takes.same; counted = takes.counted; goes_on = takes.goes_on; summary = takes.summary }

  pub none_left : (r : Option (ℕ × X)) → is_some r ≡ false → TakesFirst s r t → (t.left ≡ []) × (t.summary_left ≡ 0)
  none_left None none takes = (takes.item.1, takes.ended)
  none_left (Some entry) none takes = absurd (true≢false none)

module _ {X : Type 0} (s t u : Nonzeros X) where
  pub pulled_end : TakesFirst s None t → u.blocks ≡ t.blocks → u.left ≡ [] → u.pulls ≡ t.pulls + 1 → u.summary_pulls ≡ t.summary_pulls + 1 → u.summary_left ≡ 0 → PullsNonzero s None u
  pulled_end none blocks left pulls summary_pulls summary_left = record {
    item = (none.item.0, left);
    same = blocks ∙ none.same;
    counted = omega (arith, pulls, none.counted);
    goes_on = omega (arith, none.goes_on, summary_pulls);
    summary = (omega (arith, summary_pulls, none.summary, none.ended), summary_left);
  }

  pub pulled_none : (r : Option (ℕ × X)) → is_some r ≡ false → TakesFirst s r t → u.blocks ≡ t.blocks → u.left ≡ [] → u.pulls ≡ t.pulls + 1 → u.summary_pulls ≡ t.summary_pulls + 1
      → u.summary_left ≡ 0 → PullsNonzero s r u
  pulled_none None none = pulled_end
  pulled_none (Some entry) none = absurd (true≢false none)

-- ---- a pull at the back

module _ {X : Type 0} (s t : Nonzeros X) where
  pub pulled_last_some : (r : Option (ℕ × X)) → is_some r ≡ true → TakesLast s r t → PullsLast s r t
  pulled_last_some None some takes = absurd (true≢false (sym some))
  pulled_last_some (Some entry) some takes = record { item = takes.item; same = takes.same; counted = takes.counted; summary = takes.summary; summary_left = takes.summary_left }

module _ {X : Type 0} (s t u : Nonzeros X) where
  pub pulled_last_end : TakesLast s None t → u.blocks ≡ t.blocks → u.left ≡ t.left → u.pulls ≡ t.pulls + 1 → u.summary_pulls ≡ t.summary_pulls → u.summary_left ≡ t.summary_left → PullsLast s None u
  pulled_last_end none blocks left pulls summary_pulls summary_left = record {
    item = (none.item.0, left ∙ none.item.1);
    same = blocks ∙ none.same;
    counted = omega (arith, pulls, none.counted);
    summary = summary_pulls ∙ none.summary;
    summary_left = omega (arith, summary_left, none.summary_left);
  }

  pub pulled_last_none : (r : Option (ℕ × X)) → is_some r ≡ false → TakesLast s r t → u.blocks ≡ t.blocks → u.left ≡ t.left → u.pulls ≡ t.pulls + 1 → u.summary_pulls ≡ t.summary_pulls
      → u.summary_left ≡ t.summary_left → PullsLast s r u
  pulled_last_none None none = pulled_last_end
  pulled_last_none (Some entry) none = absurd (true≢false none)
