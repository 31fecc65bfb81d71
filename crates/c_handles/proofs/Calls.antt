-- A function of one parameter, as the logic sees it: its code, and its contract's types.
use Rattle.c_handles.proofs.Names.{[], Body, Fn, List, Logic, Slot, tables, Ura, ℕ, ◌∷◌}
use contract.Running.{Running}
use denote.{Exit.Kept, Triple.{Clauses.{Clauses, Ended, closing}, Spec.Meets}}
use mir.Syntax.{Callee, Local}
use prog.{Model.Model, Wp.Closed}

abbrev pub runs : ℕ → List Local → Body → Fn
runs n locals body = record { lifetimes = n; outlives = []; ty_params = []; givens = 0; params = 1; locals = locals; body = body }

abbrev pub takes : (n : ℕ) → Slot n → Kept → Slot n → Ended
takes n From kept To = record { signature = record { lifetimes = n; outlives = []; params = From ∷ []; result = To }; kept = (kept, tt) }

-- whatever has the code meets the contract
abbrev pub Met : {M : Type 1} {𝓤 : Ura M} (𝓛 : Logic 𝓤) (𝓜 : Model 𝓤 𝓛.H) → Running 𝓤 𝓛.H 𝓜 → (T : Ended) → Clauses 𝓤 T → Fn → Type 2
Met {M} {𝓤} 𝓛 𝓜 𝓡 T c code = let 𝓣 = tables 𝓤 𝓛.H 𝓜 𝓡 𝓡.env in (k : Callee) → Closed 𝓤 𝓛.H 𝓣.C 𝓣.Λ k code → Meets 𝓛 T.signature (𝓣.C k) (closing 𝓛 T c)
