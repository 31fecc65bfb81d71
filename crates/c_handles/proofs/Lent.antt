-- The value that C lends is lent on, by a type's `get`: its contract, its code and that it meets the contract. Assumes `Logic`.
use Rattle.c_handles.proofs.Names.{ !, [], addr, alloc_all, assign, at_ret, await, blocks, Body, copy, done, ends_at, enter, env, exec, fact, fbor, feq_i, first, fjoin, flft, Fml, Fn, fobs, follows, frame, free_all, fsplit, fsplit3, ftrue, full_share, get, GName, Goes-spent_ref, group, heard, hidden_shr, id⊢, join, keep, later, lends_Part, lies_at, List, Logic, look_at, mem, move, mut_ref_to, mut_Tells, mut_vals, MutRef, name_done, named, no, nothing, of_opd, opens, Part, part_at, pass_all, pick, place, plain, proved, Ptr, qed, RattleType, raw, refl, return, returns, rewrite, rv_opd, says, sem, sep, seq, sets, sets_last, settles, some, split, split3, stay_dropped, Stays, stop, suffices, tables, through, Ura, use1, use2, use3, Val, vptr, walk_of, ‵, ◌$◌, ◌∵◌, ◌∷◌, ◌≡◌, ◌⊛◌}
use contract.Running.{Running}
use denote.{Param.Laws.Laws, Signature.shr_ref_to, Struct.Owning.row}
use denote.Triple.Clauses.{Clauses, Ended}
use mir.Syntax.{Local, Mutability, Ty, addr_of, block, deref, erased, imm, local, mut, ty_ptr, ty_ref, value_local}
use prog.Model.{Model}
use Rattle.std.specs.Borrow.{Lends}
use Rattle.c_handles.specs.Handed.{IsAt, ends_as_is}
use Rattle.c_handles.proofs.{Calls.{Met, runs, takes}, Loans.{Lender, Loan, Rest, back, lent, stays_i}}

-- the address of a struct S, as a reference to a value of type V, where a reference names what it refers to as A or B
module _ (m : Mutability) (V S A B : Ty) where
  abbrev pub locals : List Local
  locals = local (ty_ref (named 0) m A) value_local ∷ local (ty_ref (named 0) mut B) value_local ∷ local (ty_ref erased m A) value_local
      ∷ local ty_ptr value_local ∷ local ty_ptr value_local ∷ []

  abbrev pub casts : Fn
  casts = runs 1 locals (seq (block (seq (assign (place 3 []) (addr_of (place 1 (deref S ∷ []))))
      (seq (assign (place 4 []) (rv_opd (copy (place 3 [])))) (assign (place 2 []) (addr_of (place 4 (deref V ∷ [])))))))
      (seq (assign (place 0 []) (rv_opd (copy (place 2 [])))) return))

abbrev ends : Body
ends = seq (assign (place 0 []) (rv_opd (copy (place 2 [])))) return

module _ (X : RattleType) (L : Lender X) where
  abbrev R : RattleType
  R = row L.T

  abbrev pub lending : Ended
  lending = takes 1 (mut_ref_to (0 ∷ []) tt (plain (λ _. R))) no (mut_ref_to (0 ∷ []) tt (plain (λ _. X)))

  abbrev stayed : Stays lending.signature.params lending.kept
  stayed = (stay_dropped (mut_ref_to (0 ∷ []) tt (plain (λ _. R))) no, tt)

  module _ {M : Type 1} {𝓤 : Ura M} (𝓛 : Logic 𝓤) where
    abbrev pub lends : Clauses 𝓤 lending
    lends κs a = record {
      ghost = Unit {0};
      requires = λ _. fact 𝓤 (IsAt a.0.ref_ptr (L.at a.0.now));
      ensures = λ _ r _. sep 𝓤 (sem 𝓛 (Lends R X a.0 r (L.ends a.0.now))) (fact 𝓤 (r.now ≡ L.value a.0.now));
    }

    pub lent_on : (𝓜 : Model 𝓤 𝓛.H) (𝓡 : Running 𝓤 𝓛.H 𝓜) (V S A B : Ty) → Met 𝓛 𝓜 𝓡 lending lends (casts mut V S A B)
    lent_on 𝓜 𝓡 V S A B k closed =
        let W = walk_of 𝓛 lending stayed lends in let 𝓣 = tables 𝓤 𝓛.H 𝓜 𝓡 𝓡.env in
        proved 𝓛 lending stayed lends 𝓜 𝓡 (Goes-spent_ref 𝓛 1 (0 ∷ []) tt (plain (λ _. R)), tt) k (casts mut V S A B) closed
        (λ κs. (mut_vals, tt)) (λ κs. (mut_Tells (named 0) κs.0 R, tt)) (λ κs qs bounds a _ are.
        let κ = κs.0 in let q = qs.0 in let b = a.0.ref_ptr.0 in let o = a.0.ref_ptr.1 in let γ = a.0.ghost_name in let h = a.0.now in let vs = mut_vals a.0 in
        let y : W.Ghost = ((κs, qs, bounds, a, (vs, tt)), tt) in
        qed 𝓛 (((‵ (flft κ q) ⊛ ‵ ftrue) ⊛ ‵ ((MutRef (named 0) κ R).own_val a.0 vs) ⊛ ‵ ftrue) ∷ raw (fact 𝓤 (IsAt a.0.ref_ptr (L.at h))) ∷ []) ∵
        move ! (1 ∷ []) $ heard ! _ (λ here. split ! $ split ! $ move ! (2 ∷ []) $ split ! $ keep ! (0 ∷ 2 ∷ []) $
        enter ! _ _ _ _ _ $ alloc_all ! (λ l. pass_all ! refl ((tt, tt), tt) $
        fsplit3 ! $ move ! (1 ∷ 2 ∷ 3 ∷ []) $ opens ! tt R b o (λ us.
        move ! (1 ∷ []) $ fsplit ! $ move ! (2 ∷ 0 ∷ []) $ fjoin ! $ move ! (1 ∷ []) $
        rewrite ! 0 (λ (F : Fml). ‵ F) (L.held h) refl $ rewrite ! 0 (λ (p : Ptr). ‵ (lies_at X full_share p (L.value h))) here refl $
        -- [the value; what is beside it; the open borrow, in three entries]
        move ! (2 ∷ 3 ∷ 4 ∷ 0 ∷ 1 ∷ []) $ group ! 5 $
        use1 𝓛 (later (some (λ (δ : GName). raw (Part 𝓛 R X (L.ends h) (named 0) κ q b o b o γ (sem 𝓛 (Rest L h us b o)) (back 𝓛 X L h us b o here) (L.value h) δ))))
        (lends_Part 𝓛 R X (L.ends h) (named 0) κ q b o b o γ (sem 𝓛 (Rest L h us b o)) (back 𝓛 X L h us b o here) (R.coded.code h) (R.coded.code h) (L.value h)) $ await ! tt $ pick ! (λ δ.
        use1 𝓛 (‵ ((MutRef (named 0) κ X).own_val (record { ref_ptr = (b, o); ghost_name = δ; now = L.value h }) (vptr b o ∷ [])) ⊛ ‵ (flft κ q) ⊛ ‵ (follows R X γ δ (L.ends h))) (id⊢ 𝓤 _) $ split3 ! $
        first ! $ blocks ! $
        sets ! (addr ! (through ! refl (stop !))) refl (tt, tt) $ sets ! (of_opd ! (get ! refl)) refl (tt, tt) $ sets_last ! (addr ! (through ! refl (stop !))) refl (tt, tt) $
        exec ! 𝓣.C 𝓣.Λ (env (locals mut V S A B) l) ends (at_ret _ (W.post y)) $
        sets ! (of_opd ! (get ! refl)) refl (tt, tt) $ returns ! (look_at ! 0 refl) $ free_all ! refl $ keep ! (0 ∷ 1 ∷ 2 ∷ []) $
        suffices ! _ (ends_at 𝓛 lending stayed lends y (vptr b o) (record { ref_ptr = (b, o); ghost_name = δ; now = L.value h }) (tt, tt) (tt, tt)) $
        nothing ! $ nothing ! $ fjoin ! $ join ! $ nothing ! $ move ! (2 ∷ 0 ∷ []) $ join ! $ join ! $ frame ! $ says ! refl $ done !)))))

module _ (X : RattleType) (laws : Laws X) (L : Loan X) where
  abbrev S : RattleType
  S = row L.T

  abbrev pub sharing : Ended
  sharing = takes 1 (mut_ref_to (0 ∷ []) tt (plain (λ _. S))) no (shr_ref_to (0 ∷ []) tt (plain (λ _. X)))

  abbrev kept : Stays sharing.signature.params sharing.kept
  kept = (stay_dropped (mut_ref_to (0 ∷ []) tt (plain (λ _. S))) no, tt)

  module _ {M : Type 1} {𝓤 : Ura M} (𝓛 : Logic 𝓤) where
    abbrev pub shares : Clauses 𝓤 sharing
    shares κs a = record {
      ghost = Unit {0};
      requires = λ _. fact 𝓤 (IsAt a.0.ref_ptr (L.at a.0.now));
      ensures = λ _ r _. sep 𝓤 (sem 𝓛 (ends_as_is S a.0)) (fact 𝓤 (r.now ≡ L.value a.0.now));
    }

    pub shared_on : (𝓜 : Model 𝓤 𝓛.H) (𝓡 : Running 𝓤 𝓛.H 𝓜) (V U A B : Ty) → Met 𝓛 𝓜 𝓡 sharing shares (casts imm V U A B)
    shared_on 𝓜 𝓡 V U A B k closed =
        let W = walk_of 𝓛 sharing kept shares in let 𝓣 = tables 𝓤 𝓛.H 𝓜 𝓡 𝓡.env in
        proved 𝓛 sharing kept shares 𝓜 𝓡 (Goes-spent_ref 𝓛 1 (0 ∷ []) tt (plain (λ _. S)), tt) k (casts imm V U A B) closed
        (λ κs. (mut_vals, tt)) (λ κs. (mut_Tells (named 0) κs.0 S, tt)) (λ κs qs bounds a _ are.
        let κ = κs.0 in let q = qs.0 in let b = a.0.ref_ptr.0 in let o = a.0.ref_ptr.1 in let γ = a.0.ghost_name in let h = a.0.now in let vs = mut_vals a.0 in
        let y : W.Ghost = ((κs, qs, bounds, a, (vs, tt)), tt) in
        qed 𝓛 (((‵ (flft κ q) ⊛ ‵ ftrue) ⊛ ‵ ((MutRef (named 0) κ S).own_val a.0 vs) ⊛ ‵ ftrue) ∷ raw (fact 𝓤 (IsAt a.0.ref_ptr (L.at h))) ∷ []) ∵
        move ! (1 ∷ []) $ heard ! _ (λ here. split ! $ split ! $ move ! (2 ∷ []) $ split ! $ keep ! (0 ∷ 2 ∷ []) $
        enter ! _ _ _ _ _ $ alloc_all ! (λ l. pass_all ! refl ((tt, tt), tt) $
        fsplit3 ! $ move ! (1 ∷ 2 ∷ 3 ∷ []) $
        use3 𝓛 (later (‵ (fobs γ (S.coded.code h)) ⊛ (‵ (fbor κ (part_at S full_share h b o)) ⊛ ‵ (flft κ q)))) (settles 𝓛 (mem S) κ ((κ, q) ∷ []) (λ x m. m) γ h b o) $ await ! tt $ split ! $
        name_done ! tt $ move ! (1 ∷ []) $ split ! $
        use2 𝓛 (later (‵ (hidden_shr X κ (L.value h) b o) ⊛ ‵ (flft κ q))) (lent 𝓛 X laws L κ q h b o here) $ await ! tt $ split ! $
        -- [the loan; the token; the last value of what was handed in]
        first ! $ blocks ! $
        sets ! (addr ! (through ! refl (stop !))) refl (tt, tt) $ sets ! (of_opd ! (get ! refl)) refl (tt, tt) $ sets_last ! (addr ! (through ! refl (stop !))) refl (tt, tt) $
        exec ! 𝓣.C 𝓣.Λ (env (locals imm V U A B) l) ends (at_ret _ (W.post y)) $
        sets ! (of_opd ! (get ! refl)) refl (tt, tt) $ returns ! (look_at ! 0 refl) $ free_all ! refl $ keep ! (0 ∷ 1 ∷ 2 ∷ []) $
        feq_i ! (List Val) (vptr b o ∷ []) (vptr b o ∷ []) refl $ fjoin ! $
        move ! (2 ∷ []) $ use1 𝓛 (‵ (ends_as_is S a.0)) (stays_i 𝓛 S a.0) $ move ! (1 ∷ 2 ∷ []) $
        suffices ! _ (ends_at 𝓛 sharing kept shares y (vptr b o) (record { ref_ptr = (b, o); now = L.value h }) (tt, tt) (tt, tt)) $
        nothing ! $ nothing ! $ fjoin ! $ join ! $ nothing ! $ move ! (2 ∷ 0 ∷ []) $ join ! $ join ! $ frame ! $ says ! refl $ done !)))
