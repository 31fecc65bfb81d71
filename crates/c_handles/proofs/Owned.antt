-- The box that C owns: whether there is one, and the struct of its pointer and its allocator as another. Assumes `Logic`.
use Rattle.c_handles.proofs.Names.{ !, [], agg, alloc_all, and_then, assign, B, bin, box_in, box_out, box_typed, Bx, by, cell_at, closes, copy, D, done, drop, emp, ends_at, ent, enter, fact, fjoin, fld, flft, Fml, Fn, frame, free_all, fsep, fsplit, fsplit3, ftrue, full_share, get, get_in, given, Goes-dropped, Goes-ref, group, heard, id⊢, is, is_some, IsSome, join, keep, learn, Lft, List, lit, load, Logic, look_at, look_in, move, mut_ref_to, mut_Tells, mut_vals, MutRef, named, no_more, nothing, of_opd, opens, Option, owned, pass_all, peeks, place, plain, proved, ptr_ne, Ptr, qed, RattleType, raw, rawptr_Lawful, refl, return, returns, rewrite, rv_opd, says, sem, seq, sets, Slot, Some, split, SProp, stay_dropped, stay_ref, Stays, stop, sub, subst, suffices, sym, tables, tests_null, through, Ura, use1, Val, vbool, walk_of, whole, word, WpFn, yes, ‵, ℕ, ◌$◌, ◌++◌, ◌∵◌, ◌∷◌, ◌≡◌, ◌⊛◌}
use Rattle.std.specs.{Coded.Coded, Global.Global}
use Rattle.std.proofs.raw_atomic.Walks.{proved_at}
use Rattle.std.proofs.alloc.Calls.{Fits, α}
use Rattle.std.specs.contracts.alloc.Global as Heap
use Rattle.std.proofs.alloc.Global.TheLaws as heap
use contract.Running.{MachineTables, Running}
use denote.{Builtin.bool, Exit.{hidden, under}, Laws.shows, Param.Laws.Laws, Plain.bool_Makes}
use denote.Struct.{Field.{RawPtr-field, rows}, Laws.RawPtr-laws, Owning.{Owning, row, shape, to}, OwningLaws.Tells-lowered, Struct.{Struct, exits_of}, Values.intos}
use denote.Triple.{Clauses.{Clauses, Ended, closing}, Spec.Meets}
use mir.Syntax.{Callee, Sym, Ty, aggregate, field, deref, int, local, mut, op2, tcons, tnil, ty_bool, ty_ptr, ty_ref, ty_struct, value_local, w64}
use prog.{Model.Model, Wp.{Calls, Closed, Loops}}
use Rattle.c_handles.specs.Handed.{owns}
use Rattle.c_handles.proofs.{AsBox.{FromParts, box_of, parts_row}, Calls.{Met, runs, takes}, Nulls.{Tests, tested}, Values.{is_value, value_of}}

-- a type whose values say what they own, and where
pub record Owner (X : RattleType) : Type 2 where
  pub name : Sym
  pub D : Type 0
  pub at : D → Ptr
  pub alloc : D → Global
  pub held : D → Option X.Denot
  pub coded : Coded D
  pub shr_at : D → ℕ → ℕ → Lft → Fml

module _ {X : RattleType} (O : Owner X) where
  abbrev pub owning : Owning
  owning = record {
    name = O.name;
    args = [];
    types = [];
    parts = RawPtr-field ∷ Heap.the_field ∷ [];
    D = O.D;
    as_values = λ d. (O.at d, (O.alloc d, tt));
    coded = O.coded;
    heap = λ d. owns X (O.alloc d) (O.at d) (O.held d);
    exit = λ k. hidden (under (λ d. intos (RawPtr-field ∷ Heap.the_field ∷ []) (O.at d, (O.alloc d, tt))) (exits_of k (rows (RawPtr-field ∷ Heap.the_field ∷ []))));
    shr_at = O.shr_at;
  }

  abbrev pub owned_row : RattleType
  owned_row = row owning

abbrev parts_ty : {X : RattleType} (laws : Laws X) → Sym → Ty
parts_ty {X} laws n = ty_struct n (tcons ty_ptr (tcons (α (box_of X laws).al) tnil))

-- ---- whether there is one
abbrev pub tests : {X : RattleType} (laws : Laws X) → Ty → Sym → Fn
tests laws U n = runs 1 (local ty_bool value_local ∷ local (ty_ref (named 0) mut U) value_local ∷ local ty_ptr value_local ∷ [])
    (seq (assign (place 2 []) (rv_opd (copy (place 1 (deref (parts_ty laws n) ∷ field 0 ∷ [])))))
    (seq (assign (place 0 []) (op2 ptr_ne (copy (place 2 [])) (int w64 0))) return))

module _ (X : RattleType) (laws : Laws X) (O : Owner X) where
  abbrev R : RattleType
  R = owned_row O

  abbrev pub testing : Ended
  testing = takes 1 (mut_ref_to (0 ∷ []) tt (plain (λ _. R))) yes (plain (λ _. bool))

  abbrev stayed : Stays testing.signature.params testing.kept
  stayed = (stay_ref (0 ∷ []) tt (plain (λ _. R)), tt)

  module _ {M : Type 1} {𝓤 : Ura M} (𝓛 : Logic 𝓤) where
    abbrev pub tells : Clauses 𝓤 testing
    tells κs a = record { ghost = Unit {0}; requires = λ _. emp 𝓤; ensures = λ _ r e. fact 𝓤 ((r ≡ is_some (O.held a.0.now)) × (e.0.now ≡ a.0.now)) }

    pub is_held : (𝓜 : Model 𝓤 𝓛.H) (𝓡 : Running 𝓤 𝓛.H 𝓜) (U : Ty) (n : Sym) → Met 𝓛 𝓜 𝓡 testing tells (tests laws U n)
    is_held 𝓜 𝓡 U n k closed =
        let W = walk_of 𝓛 testing stayed tells in
        proved 𝓛 testing stayed tells 𝓜 𝓡 (Goes-ref 𝓛 1 0 tt (plain (λ _. R)), tt) k (tests laws U n) closed
        (λ κs. (mut_vals, tt)) (λ κs. (mut_Tells (named 0) κs.0 R, tt)) (λ κs qs bounds a _ are.
        let b = a.0.ref_ptr.0 in let o = a.0.ref_ptr.1 in let h = a.0.now in let vs = mut_vals a.0 in let some = is_some (O.held h) in
        let y : W.Ghost = ((κs, qs, bounds, a, (vs, tt)), tt) in
        qed 𝓛 (((‵ (flft κs.0 qs.0) ⊛ ‵ ftrue) ⊛ ‵ ((MutRef (named 0) κs.0 R).own_val a.0 vs) ⊛ ‵ ftrue) ∷ ‵ ftrue ∷ []) ∵
        split ! $ split ! $ move ! (2 ∷ []) $ split ! $ keep ! (0 ∷ 2 ∷ []) $
        enter ! _ _ _ _ _ $ alloc_all ! (λ l. pass_all ! refl ((tt, tt), tt) $
        fsplit3 ! $ move ! (1 ∷ 2 ∷ 3 ∷ []) $ opens ! tt R b o (λ us.
        move ! (1 ∷ []) $ peeks ! R _ (shows 𝓛 R) h us (λ says_us. fsplit ! $ move ! (1 ∷ []) $
        use1 𝓛 (given (Tests (O.at h) some) (‵ (owns X (O.alloc h) (O.at h) (O.held h)))) (tested 𝓛 X (O.alloc h) (O.at h) (O.held h)) $ learn ! (λ t.
        let word = Tells-lowered (owning O) (RawPtr-laws, (heap.the_field_laws, tt)) h us says_us in
        let Cell = λ (ws : List Val). ‵ (cell_at full_share R.mir ws b o) in
        rewrite ! 2 Cell word refl $
        -- [what is held; what the fields own; the struct's cell; the open borrow, in three entries]
        sets ! (of_opd ! (load ! (through ! refl (fld ! refl (stop !))) (look_in ! 2 (sub ! 0 refl (whole !))))) refl ((rawptr_Lawful 𝓛).typed (O.at h) _ refl).0 $
        sets ! (is ! (bin ! (get ! refl) (lit ! tt) (tests_null (O.at h) t.0)) t.1) refl (tt, tt) $
        rewrite ! 2 Cell (sym word) refl $ move ! (1 ∷ []) $ fjoin ! $ move ! (1 ∷ []) $ closes ! tt R h us b o $
        -- [two parts of self; the token; self's first part]
        returns ! (look_at ! 0 refl) $ free_all ! refl $ move ! (3 ∷ []) $
        suffices ! _ (ends_at 𝓛 testing stayed tells y (vbool some) some (h, tt) (tt, tt)) $ says ! (refl, refl) $
        group ! 3 $ nothing ! $ move ! (1 ∷ 0 ∷ []) $ join ! $ nothing ! $ move ! (2 ∷ 0 ∷ []) $ join ! $ frame ! $ frame ! $
        owned ! bool _ (bool_Makes 𝓛) some _ refl $ done !)))))

-- ---- the two fields, moved
abbrev pub moves : {X : RattleType} (laws : Laws X) → Sym → Sym → Fn
moves {X} laws n m = runs 0 (local (parts_ty laws m) value_local ∷ local (parts_ty laws n) value_local
    ∷ local ty_ptr value_local ∷ local (α (box_of X laws).al) value_local ∷ local ty_ptr value_local ∷ [])
    (seq (assign (place 2 []) (rv_opd (copy (place 1 (field 0 ∷ []))))) (seq (assign (place 3 []) (rv_opd (copy (place 1 (field 1 ∷ [])))))
    (seq (assign (place 4 []) (rv_opd (copy (place 2 [])))) (seq (assign (place 0 []) (aggregate (copy (place 4 []) ∷ copy (place 3 []) ∷ []))) return))))

-- the parts of a box own what the box owns
abbrev PartsOwn : (X : RattleType) → Laws X → Type 1
PartsOwn X laws = (p : Ptr) (g : Global) (x : X.Denot) (vs : List Val) → (parts_row X).own_val (record { ptr = p; alloc = g; value = x }) vs
    ≡ (B (box_of X laws)).own_val (record { ptr = p; alloc = g; value = x }) vs

module _ (X : RattleType) (laws : Laws X) (O : Owner X) where
  abbrev E : Bx
  E = box_of X laws

  abbrev Whole : RattleType
  Whole = owned_row O

  abbrev pub storing : Ended
  storing = takes 0 (FromParts X) yes (plain (λ _. Whole))

  abbrev pub taking : Ended
  taking = takes 0 (plain (λ _. Whole)) yes (FromParts X)

  module _ {M : Type 1} {𝓤 : Ura M} (𝓛 : Logic 𝓤) where
    moved : (C : Calls 𝓤 𝓛.H) (Λ : Loops 𝓤 𝓛.H) (n m : Sym) (F : Fml) (Post : Val → SProp 𝓤) (hv : Val) (b o : ℕ) → Fits E.al hv → ent 𝓤 (sem 𝓛 F) (Post (word E hv b o))
        → ent 𝓤 (sem 𝓛 F) (WpFn 𝓤 𝓛.H C Λ (moves laws n m) (word E hv b o ∷ []) Post)
    moved C Λ n m F Post hv b o fa ends = qed 𝓛 (‵ F ∷ []) ∵ enter ! C Λ (moves laws n m) (word E hv b o ∷ []) _ $ alloc_all ! (λ ls. pass_all ! refl (box_typed E hv b o fa, tt) $
        sets ! (of_opd ! (get_in ! (fld ! refl (stop !)) (sub ! 0 refl (whole !)))) refl (tt, tt) $ sets ! (of_opd ! (get_in ! (fld ! refl (stop !)) (sub ! 1 refl (whole !)))) refl fa $
        sets ! (of_opd ! (get ! refl)) refl (tt, tt) $ sets ! (agg ! (and_then ! (get ! refl) (and_then ! (get ! refl) (no_more !)))) refl (box_typed E hv b o fa) $
        returns ! (look_at ! 0 refl) $ free_all ! refl $ by ! ends)

    abbrev pub stores : Clauses 𝓤 storing
    stores κs a = record { ghost = Unit {0}; requires = λ _. emp 𝓤; ensures = λ _ r _. fact 𝓤 (O.held r ≡ Some a.0.value) }

    abbrev pub gives : Clauses 𝓤 taking
    gives κs a = record { ghost = Unit {0}; requires = λ _. fact 𝓤 (IsSome (O.held a.0)); ensures = λ _ r _. fact 𝓤 (O.held a.0 ≡ Some r.value) }

    module _ (𝓜 : Model 𝓤 𝓛.H) (𝓡 : Running 𝓤 𝓛.H 𝓜) (n m : Sym) (k : Callee) (closed : Closed 𝓤 𝓛.H (tables 𝓤 𝓛.H 𝓜 𝓡 𝓡.env).C (tables 𝓤 𝓛.H 𝓜 𝓡 𝓡.env).Λ k (moves laws n m)) where
      abbrev 𝓣 : MachineTables 𝓤 𝓛.H 𝓜
      𝓣 = tables 𝓤 𝓛.H 𝓜 𝓡 𝓡.env

      pub from_parts : PartsOwn X laws → (make : Ptr → Global → X.Denot → O.D) → ((p : Ptr) (g : Global) (x : X.Denot) → O.held (make p g x) ≡ Some x)
          → ((p : Ptr) (g : Global) (x : X.Denot) (vs : List Val) → (B E).own_val (record { ptr = p; alloc = g; value = x }) vs ≡ Whole.own_val (make p g x) vs)
          → Meets 𝓛 storing.signature (𝓣.C k) (closing 𝓛 storing stores)
      from_parts parts_own make holds owned_as = let hs : Stays storing.signature.params storing.kept = (stay_dropped (FromParts X) yes, tt) in
          proved_at 𝓛 storing hs stores 𝓜 𝓡 (Goes-dropped 𝓛 0 (FromParts X) yes (λ κs x f. refl), tt) k (moves laws n m) closed (λ z are.
          let v : D E = record { ptr = z.0.3.0.ptr; alloc = z.0.3.0.alloc; value = z.0.3.0.value } in
          let made = make v.ptr v.alloc v.value in
          qed 𝓛 ((‵ ftrue ⊛ ‵ (fsep ((parts_row X).own_val z.0.3.0 z.0.4.0) ftrue)) ∷ raw (emp 𝓤) ∷ []) ∵ split ! $ drop ! $ fsplit ! $
          rewrite ! 0 (λ (F : Fml). ‵ F) (parts_own v.ptr v.alloc v.value z.0.4.0) refl $
          box_out E ! v z.0.4.0 (λ b o hv e ws fa. box_in E ! v b o v.value e refl $ use1 𝓛 (‵ ((B E).own_val v (word E hv b o ∷ []))) (id⊢ 𝓤 _) $ move ! (1 ∷ 2 ∷ []) $ drop ! $ drop ! $
          let w = word E hv b o in let Owns = (B E).own_val v (w ∷ []) in let Post = (walk_of 𝓛 storing hs stores).post z in
          by ! (subst (λ (us : List Val). ent 𝓤 (sem 𝓛 Owns) (WpFn 𝓤 𝓛.H 𝓣.C 𝓣.Λ (moves laws n m) (us ++ []) Post)) (sym ws) (moved 𝓣.C 𝓣.Λ n m Owns Post hv b o fa
          (qed 𝓛 (‵ Owns ∷ []) ∵ rewrite ! 0 (λ (F : Fml). ‵ F) (owned_as v.ptr v.alloc v.value (w ∷ [])) refl $
          suffices ! _ (ends_at 𝓛 storing hs stores z w made (tt, tt) (tt, tt)) $ says ! (holds v.ptr v.alloc v.value) $
          nothing ! $ nothing ! $ fjoin ! $ join ! $ nothing ! $ join ! $ done !)))))

      pub as_parts : PartsOwn X laws
          → ((h : O.D) (x : X.Denot) (vs : List Val) → fsep ((Struct (shape (owning O))).own_val (to (owning O) h) vs) (owns X (O.alloc h) (O.at h) (Some x))
          ≡ (B E).own_val (record { ptr = O.at h; alloc = O.alloc h; value = x }) vs)
          → Meets 𝓛 taking.signature (𝓣.C k) (closing 𝓛 taking gives)
      as_parts parts_own owned_as = let From : Slot 0 = plain (λ _. Whole) in let hs : Stays taking.signature.params taking.kept = (stay_dropped From yes, tt) in
          proved_at 𝓛 taking hs gives 𝓜 𝓡 (Goes-dropped 𝓛 0 From yes (λ κs x f. refl), tt) k (moves laws n m) closed (λ z are.
          let h = z.0.3.0 in
          qed 𝓛 ((‵ ftrue ⊛ ‵ (fsep (Whole.own_val h z.0.4.0) ftrue)) ∷ raw (fact 𝓤 (IsSome (O.held h))) ∷ []) ∵ move ! (1 ∷ []) $ heard ! (IsSome (O.held h)) (λ some.
          let is = is_value (O.held h) some in let v : D E = record { ptr = O.at h; alloc = O.alloc h; value = value_of (O.held h) some } in
          split ! $ drop ! $ fsplit ! $
          rewrite ! 0 (λ (o : Option X.Denot). ‵ (fsep ((Struct (shape (owning O))).own_val (to (owning O) h) z.0.4.0) (owns X (O.alloc h) (O.at h) o))) is refl $
          rewrite ! 0 (λ (F : Fml). ‵ F) (owned_as h v.value z.0.4.0) refl $
          box_out E ! v z.0.4.0 (λ b o hv e ws fa. box_in E ! v b o v.value e refl $ use1 𝓛 (‵ ((B E).own_val v (word E hv b o ∷ []))) (id⊢ 𝓤 _) $ move ! (1 ∷ 2 ∷ []) $ drop ! $ drop ! $
          let w = word E hv b o in let Owns = (B E).own_val v (w ∷ []) in let Post = (walk_of 𝓛 taking hs gives).post z in
          by ! (subst (λ (us : List Val). ent 𝓤 (sem 𝓛 Owns) (WpFn 𝓤 𝓛.H 𝓣.C 𝓣.Λ (moves laws n m) (us ++ []) Post)) (sym ws) (moved 𝓣.C 𝓣.Λ n m Owns Post hv b o fa
          (qed 𝓛 (‵ Owns ∷ []) ∵ rewrite ! 0 (λ (F : Fml). ‵ F) (sym (parts_own v.ptr v.alloc v.value (w ∷ []))) refl $ suffices ! _ (ends_at 𝓛 taking hs gives z w (record { ptr = v.ptr; alloc = v.alloc; value = v.value }) (tt, tt) (tt, tt)) $ says ! is $
          nothing ! $ nothing ! $ fjoin ! $ join ! $ nothing ! $ join ! $ done !))))))
