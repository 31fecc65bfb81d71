-- What C lends of a value, as what a `&` or a `&mut` to it holds. Assumes `Logic`.
use Rattle.c_handles.proofs.Names.{ !, [], await, bor_fracture, bor_open, by, cell_at, closes_cut, Denots, done, ent, fbor, fjoin, flft, Fml, follows_by, fpack, fres, fsep, fsplit, ftrue, full_share, group, hidden_shr, Incl, keep, later, Lft, lies_at, List, Logic, meet_⊑_left, mem, move, MutBor, nothing, now, part_at, part_of, Ptr, qed, RattleType, refl, rewrite, sem, sep, Share, split, split3, such_by, sym, updating, Ura, use1, use2, Val, ‵, ℕ, ◌$◌, ◌++◌, ◌∵◌, ◌∷◌, ◌≡◌, ◌⊛◌}
use base.Before.{chain}
use mathlib.Core.Option.{none}
use denote.Param.Laws.{Laws}
use denote.Opens.{shr_dup}
use denote.Struct.Owning.{Owning, fields, row, shape, to}
use denote.Struct.OwningLaws.{part_out, part_in}
use denote.Struct.Struct.{Struct}
use Rattle.c_handles.specs.Handed.{IsAt, ends_as_is, part, shares}

-- a type of what C lends to be read, whose values say which part of a loan each is of, and where what is
pub record Loan (X : RattleType) : Type 2 where
  pub T : Owning
  pub life : T.D → Lft
  pub halvings : T.D → ℕ
  pub at : T.D → Ptr
  pub value : T.D → X.Denot
  pub heap : (h : T.D) → T.heap h ≡ shares X (life h) (halvings h) (at h) (value h)

-- a type of what C lends to be changed, whose values say where what is
pub record Lender (X : RattleType) : Type 2 where
  pub T : Owning
  pub at : T.D → Ptr
  pub value : T.D → X.Denot
  pub ends : T.D → X.Denot → T.D
  pub words : (h : T.D) (w : X.Denot) → to T (ends h w) ≡ to T h
  pub held : (h : T.D) → T.heap h ≡ lies_at X full_share (at h) (value h)
  pub heap : (h : T.D) (w : X.Denot) → T.heap (ends h w) ≡ lies_at X full_share (at h) w

-- what is there beside the value: what the fields own, no bytes
abbrev pub Rest : {X : RattleType} (L : Lender X) → L.T.D → List Val → ℕ → ℕ → Fml
Rest L h us b o = fsep (cell_at full_share (row L.T).mir us b o) ((Struct (shape L.T)).own_val (to L.T h) us)

module _ {M : Type 1} {𝓤 : Ura M} (𝓛 : Logic 𝓤) where
  open 𝓛 use {H, A}

  module _ (X : RattleType) (laws : Laws X) (L : Loan X) where
    abbrev T : Owning
    T = L.T

    abbrev R : RattleType
    R = row L.T

    -- a value that is lent with a part of its lifetime's token is lent for as long as that part is
    pub lent : (κ : Lft) (q : Share) (h : L.T.D) (b o : ℕ) → IsAt (b, o) (L.at h)
        → ent 𝓤 (sep 𝓤 (A.bor κ (part_at R full_share h b o)) (A.lft κ q)) (H.⇛ (sep 𝓤 (sem 𝓛 (hidden_shr X κ (L.value h) b o)) (A.lft κ q)))
    lent κ q h b o here =
        let ν : Lft = L.life h in let s : Share = part (L.halvings h) in let value : X.Denot = L.value h in
        let P : Fml = part_at R full_share h b o in
        let W : Fml = part_at (Struct (shape T)) full_share (to T h) b o in
        let Sh : Fml = hidden_shr X ν value b o in
        let Heap : Ptr → Fml = λ p. shares X ν (L.halvings h) p value in
        let back : ent 𝓤 (sep 𝓤 (sem 𝓛 (flft ν s)) (sep 𝓤 (sem 𝓛 W) (sem 𝓛 Sh))) (sem 𝓛 P) =
        qed 𝓛 (‵ (flft ν s) ∷ ‵ W ∷ ‵ Sh ∷ []) {P = sem 𝓛 P} (move ! (0 ∷ 2 ∷ []) $ fjoin ! $ rewrite ! 0 (λ (p : Ptr). ‵ (Heap p)) (sym here) refl $ rewrite ! 0 (λ (F : Fml). ‵ F) (sym (L.heap h)) refl $ move ! (1 ∷ 0 ∷ []) $ by ! (part_in 𝓛 T full_share h b o)) in
        qed 𝓛 (‵ (fbor κ P) ∷ ‵ (flft κ q) ∷ []) {P = H.⇛ (sep 𝓤 (sem 𝓛 (hidden_shr X κ value b o)) (A.lft κ q))} (
        updating ! $ bor_open ! tt $ move ! (1 ∷ []) $ use1 𝓛 (‵ W ⊛ ‵ (L.T.heap h)) (part_out 𝓛 T full_share h b o) $ split ! $ move ! (1 ∷ []) $
        rewrite ! 0 (λ (F : Fml). ‵ F) (L.heap h) refl $ rewrite ! 0 (λ (p : Ptr). ‵ (Heap p)) here refl $ fsplit ! $ move ! (1 ∷ []) $ shr_dup ! X laws.shr_laws value b o ν $
        -- [the loan, twice; the part of the token; no bytes; the open borrow]
        move ! (4 ∷ 2 ∷ 3 ∷ 0 ∷ []) $ group ! 4 $
        use1 𝓛 (later (‵ (fbor κ (flft ν s)) ⊛ ‵ (fbor κ W) ⊛ ‵ (flft κ q))) (closes_cut 𝓛 κ q P (flft ν s) W (sem 𝓛 Sh) back) $ await ! tt $ split3 ! $
        bor_fracture ! tt (λ (r : Share). flft ν r) s $
        nothing ! $ fpack ! (Incl (ν ++ κ) ν) (λ _. ftrue) (meet_⊑_left ν κ) $ move ! (1 ∷ 0 ∷ []) $ fjoin ! $
        fpack ! (List Lft) (λ (νs : List Lft). chain νs κ ν) (ν ∷ []) $
        -- [κ ends no later than ν; no bytes; the token; the loan]
        move ! (0 ∷ 3 ∷ []) $ use2 𝓛 (‵ (hidden_shr X κ value b o)) ((laws.shr_laws value b o).mono M 𝓤 𝓛 κ ν) $
        keep ! (0 ∷ 2 ∷ []) $ now ! $ done !)

  -- a value that comes back is what was handed in, with that value
  pub back : (X : RattleType) (L : Lender X) (h : L.T.D) (us : List Val) (b o : ℕ) → IsAt (b, o) (L.at h) → (w : X.Denot)
      → ent 𝓤 (sep 𝓤 (sem 𝓛 ((mem X).own_at w b o)) (sem 𝓛 (Rest L h us b o))) (sem 𝓛 ((mem (row L.T)).own_at (L.ends h w) b o))
  unfolding part_of
  back X L h us b o here w =
      qed 𝓛 (‵ (part_at X full_share w b o) ∷ ‵ (Rest L h us b o) ∷ []) ∵
      rewrite ! 0 (λ (p : Ptr). ‵ (lies_at X full_share p w)) (sym here) refl $ rewrite ! 0 (λ (F : Fml). ‵ F) (sym (L.heap h w)) refl $ move ! (1 ∷ []) $ fsplit ! $
      rewrite ! 1 (λ (t : Denots (fields L.T)). ‵ ((Struct (shape L.T)).own_val t us)) (sym (L.words h w)) refl $ move ! (1 ∷ 2 ∷ []) $ fjoin ! $ move ! (1 ∷ 0 ∷ []) $ fjoin ! $
      fpack ! (List Val) (λ vs. fsep (cell_at full_share (row L.T).mir vs b o) ((row L.T).own_val (L.ends h w) vs)) us $ done !

  -- what was handed in is what it was
  pub stays_i : (R : RattleType) (s : MutBor R.Denot) → ent 𝓤 (A.res s.ghost_name (R.coded.code s.now)) (sem 𝓛 (ends_as_is R s))
  unfolding such_by follows_by
  stays_i R s =
      let D : Type 0 = R.Denot in let c = R.coded.code in
      qed 𝓛 (‵ (fres s.ghost_name (c s.now)) ∷ []) {P = sem 𝓛 (ends_as_is R s)} (
      fpack ! ((t : (D → D) × D) × ((w : D) → Unit {0}) × (t.1 ≡ s.now)) (λ t. follows_by D D c c s.ghost_name none t.0.0 t.0.1) (((λ w. w), s.now), (λ w. tt), refl) $ done !)
