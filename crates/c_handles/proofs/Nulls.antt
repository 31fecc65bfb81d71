-- The pointer that C owns is null just where there is no value. Assumes `Logic`.
use Rattle.c_handles.proofs.Names.{ !, [], block_ptr, Bool, by, emp, ent, fact, fact_i, fact_mono, fact_use, false, feq, feq_l, fst∗, full_share, guard, guard_i, is_some, lies_at, lit<, Logic, lone, never, never_e, None, null_ptr, op2_val, Option, Ptr, ptr_ne, ptr_val, qed, RattleType, refl, sem, snd∗, Some, SProp, subst, sym, Testable, true, Ura, vbool, via, vnull, ‵, ◌∷◌, ◌≡◌}
use mir.Raw.{raw as bare}
use Rattle.std.proofs.GlobalToken.{dealloc_token-Testable}
use Rattle.std.specs.{Global.Global, contracts.impls.GlobalAllocator.TheImpl.ghosts}
use Rattle.c_handles.specs.Handed.{owns}

-- the pointer may be tested, and what the test says
abbrev pub Tests : Ptr → Bool → Type 0
Tests p some = Testable p × (op2_val ptr_ne (ptr_val p) vnull ≡ vbool some)

module _ {M : Type 1} {𝓤 : Ura M} (𝓛 : Logic 𝓤) (X : RattleType) (alloc : Global) where
  tells : (p : Ptr) (held : Option X.Denot) → ent 𝓤 (sem 𝓛 (owns X alloc p held)) (fact 𝓤 (Tests p (is_some held)))
  tells p None = qed 𝓛 (‵ (feq Ptr p null_ptr) ∷ []) {P = fact 𝓤 (Tests p false)} (feq_l ! (λ e. by ! (fact_i 𝓤 (Tests p false) (emp 𝓤) (subst (λ (s : Ptr). Tests s false) (sym e) (lit< tt, refl)))))
  tells (block_ptr b o) (Some x) =
      let p : Ptr = block_ptr b o in let token : SProp 𝓤 = sem 𝓛 (ghosts.dealloc_token alloc (bare (lone X.mir)) p) in
      via 𝓤 token (snd∗ 𝓤 (sem 𝓛 (lies_at X full_share p x)) token)
      (via 𝓤 (fact 𝓤 (Testable p)) (dealloc_token-Testable 𝓛 alloc (bare (lone X.mir)) p) (fact_mono 𝓤 (Testable p) (Tests p true) (λ t. (t, refl))))
  tells null_ptr (Some x) = via 𝓤 (never 𝓤) (fst∗ 𝓤 (never 𝓤) (sem 𝓛 (ghosts.dealloc_token alloc (bare (lone X.mir)) null_ptr))) (never_e 𝓤 (fact 𝓤 (Tests null_ptr true)))

  pub tested : (p : Ptr) (held : Option X.Denot) → ent 𝓤 (sem 𝓛 (owns X alloc p held)) (guard 𝓤 (Tests p (is_some held)) (sem 𝓛 (owns X alloc p held)))
  tested p held = fact_use 𝓤 (Tests p (is_some held)) (tells p held) (guard_i 𝓤 (Tests p (is_some held)) (sem 𝓛 (owns X alloc p held)))
