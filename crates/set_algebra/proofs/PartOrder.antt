-- Whether two sets are the same, part by part.
use Rattle.std.proofs.Common.{◌≡◌, inl, inr, ℕ, ◌+◌, ◌*◌, ◌<◌, ◌≤◌, Bool, true, false, eqb, List, [], ◌∷◌, ◌++◌, length, get_or, refl, sym, ap, ap₂, subst, ◌∙◌, arith}
use Rattle.std.specs.Cmp.Lexicographic.{bytes_decides}
use Rattle.std.proofs.lemmas.Bool.{and_parts, cases_lt, eq-eqb, eqb-true, ne_eqb, true≢false, Decides.nat_tests}
use Rattle.set_algebra.specs.{Order.same_sets, Parts.{AreParts, PartView, lifted, lows_at, members_of}, Sets.{bound_of, has}}
use Rattle.set_algebra.proofs.PartMembers.{has-members, length-members, split_is}
use Rattle.set_algebra.proofs.{SetLaws.bound_of-above, SetLemmas.{same_members}}

pub same-append : (l s t : List ℕ) → same_sets (l ++ s) (l ++ t) ≡ same_sets s t
same-append [] s t = refl
same-append (x ∷ l) s t = rw (eq-eqb x x refl) (same-append l s t)

-- sets that differ are not the same
differ : (s t : List ℕ) → (s ≡ t → ⊥) → same_sets s t ≡ false
differ s t other =
    let decides = bytes_decides s t in
    elim (same_sets s t) as (λ b. same_sets s t ≡ b → b ≡ false) [
      | true ↦ λ is. absurd (other (decides.0 is))
      | false ↦ λ is. refl
    ] refl

uncons : (xs : List ℕ) → 0 < length xs → (x : ℕ) × (rest : List ℕ) × (xs ≡ x ∷ rest)
uncons [] some = absurd (omega (arith, some))
uncons (x ∷ xs) some = (x, xs, refl)

module _ {A : Type 0} (v : PartView A) where
  first_lows : (p : A) (ps : List A) → lows_at v (p ∷ ps) (v.key p) ≡ v.lows p
  first_lows p ps = rw (eq-eqb (v.key p) (v.key p) refl) refl

  module _ (p r : A) (ps rs : List A) (up_p : AreParts v (p ∷ ps)) (up_r : AreParts v (r ∷ rs)) where
    -- the first number of a set has the first key
    keys_same : members_of v (p ∷ ps) ≡ members_of v (r ∷ rs) → v.key p ≡ v.key r
    keys_same same =
        let a = uncons (v.lows p) up_p.1.not_empty in
        let b = uncons (v.lows r) up_r.1.not_empty in
        let first_p : get_or (members_of v (p ∷ ps)) 0 0 ≡ v.key p * v.width + a.0 = ap (λ (ls : List ℕ). get_or (lifted v.width (v.key p) ls ++ members_of v ps) 0 0) a.2 in
        let first_r : get_or (members_of v (r ∷ rs)) 0 0 ≡ v.key r * v.width + b.0 = ap (λ (ls : List ℕ). get_or (lifted v.width (v.key r) ls ++ members_of v rs) 0 0) b.2 in
        let firsts = sym first_p ∙ ap (λ (ns : List ℕ). get_or ns 0 0) same ∙ first_r in
        let fits_p : a.0 < v.width = omega (arith, subst (λ (ls : List ℕ). bound_of ls ≤ v.width) a.2 up_p.1.below) in
        let fits_r : b.0 < v.width = omega (arith, subst (λ (ls : List ℕ). bound_of ls ≤ v.width) b.2 up_r.1.below) in
        let both = sym (split_is v.width (v.key p) a.0 (v.key r) b.0 fits_p fits_r) ∙ eq-eqb _ _ firsts in
        eqb-true (v.key p) (v.key r) ((and_parts _ _ both).0)

    lows_same : members_of v (p ∷ ps) ≡ members_of v (r ∷ rs) → v.lows p ≡ v.lows r
    lows_same same =
        same_members (v.lows p) (v.lows r) up_p.1.ascends up_r.1.ascends (λ l.
        elim (cases_lt l v.width) [
          | inl lt ↦
              let in_p = has-members v 0 (p ∷ ps) (v.key p) l up_p lt ∙ ap (λ (lows : List ℕ). has lows l) (first_lows p ps) in
              let in_r = has-members v 0 (r ∷ rs) (v.key r) l up_r lt ∙ ap (λ (lows : List ℕ). has lows l) (first_lows r rs) in
              sym in_p ∙ ap (λ (ns : List ℕ). has ns (v.key p * v.width + l)) same ∙ ap (λ (k : ℕ). has (members_of v (r ∷ rs)) (k * v.width + l)) (keys_same same) ∙ in_r
          | inr le ↦
              let not_p = bound_of-above (v.lows p) l in
              let not_r = bound_of-above (v.lows r) l in
              let below_p = up_p.1.below in
              let below_r = up_r.1.below in
              grind (arith, nat_tests)
        ])

    pub keys_differ : (v.key p ≡ v.key r → ⊥) → same_sets (members_of v (p ∷ ps)) (members_of v (r ∷ rs)) ≡ false
    keys_differ other = differ (members_of v (p ∷ ps)) (members_of v (r ∷ rs)) (λ same. other (keys_same same))

    pub lows_differ : same_sets (v.lows p) (v.lows r) ≡ false → same_sets (members_of v (p ∷ ps)) (members_of v (r ∷ rs)) ≡ false
    lows_differ other =
        differ (members_of v (p ∷ ps)) (members_of v (r ∷ rs)) (λ same.
        let is = (bytes_decides (v.lows p) (v.lows r)).1 (lows_same same) in
        absurd (true≢false (sym is ∙ other)))

    pub rests_decide : v.key p ≡ v.key r → same_sets (v.lows p) (v.lows r) ≡ true → same_sets (members_of v (p ∷ ps)) (members_of v (r ∷ rs)) ≡ same_sets (members_of v ps) (members_of v rs)
    rests_decide keys lows =
        let part : lifted v.width (v.key p) (v.lows p) ≡ lifted v.width (v.key r) (v.lows r) = ap₂ (lifted v.width) keys ((bytes_decides (v.lows p) (v.lows r)).0 lows) in
        rw (← part) (same-append (lifted v.width (v.key p) (v.lows p)) (members_of v ps) (members_of v rs))

  -- one is longer
  pub none_left : (p : A) (ps : List A) → AreParts v (p ∷ ps) → same_sets (members_of v (p ∷ ps)) [] ≡ false
  none_left p ps up = differ (members_of v (p ∷ ps)) [] (λ (same : members_of v (p ∷ ps) ≡ []). omega (arith, up.1.not_empty, length-members v p ps, ap length same))

  pub ended : (rs : List A) (r : Bool) → AreParts v rs → r ≡ eqb (length rs) 0 → r ≡ same_sets [] (members_of v rs)
  ended [] r up is = is
  ended (p ∷ ps) r up is =
      is ∙ ne_eqb (length (p ∷ ps)) 0 (omega arith) ∙ sym (differ [] (members_of v (p ∷ ps)) (λ (same : [] ≡ members_of v (p ∷ ps)). omega (arith, up.1.not_empty, length-members v p ps, ap length same)))
