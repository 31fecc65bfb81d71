use Rattle.std.{proofs.Common.{Result, Ok, Err, sym, ◌∙◌}, specs.Prelude.IfOk}
use Rattle.bit_blocks.proofs.{ByteLemmas.values_of_bytes_are, VectorLemmas.length_from_view}
use Rattle.bit_words.proofs.bit_vec.BitVec.to_bytes.Goals as goal

both : {V E : Type 0} (P Q S : V → Type 0) (r : Result V E) → IfOk r P → IfOk r Q → ((v : V) → P v → Q v → S v) → IfOk r S
both P Q S (Ok v) p q then = then v p q
both P Q S (Err e) p q then = tt

pub returns-clause-values : goal.returns-clause-values
returns-clause-values g c =
    both _ _ _ c.bytes_of.result c.bytes_of.ensures.len c.bytes_of.ensures.values (λ bytes long same.
    values_of_bytes_are _ _ _ _ bytes.items _ c.self.view_is c.self.invariant.packed.tail long (rw c.deref.ensures.value at same))

pub returns-clause-len : goal.returns-clause-len
returns-clause-len g c = rw (length_from_view _ _ _ _ _ c.self.view_is) c.bytes_of.ensures.len

pub returns-clause-empty : goal.returns-clause-empty
returns-clause-empty g c none = c.bytes_of.ensures.empty (sym (length_from_view _ _ _ _ _ c.self.view_is) ∙ none)
