use Rattle.std.{proofs.{Common.{◌-◌, ◌*◌, length, sym, ap, ◌∙◌}, lemmas.Result.IfOk-weaker}}
use Rattle.set_algebra.{specs.Sets.{elements, has}, proofs.SetLemmas.elements-padded}
use Rattle.bit_set.proofs.ByteLemmas.{bits_of_bytes}
use Rattle.bit_set.proofs.set.BitSet.to_bytes.Goals as goal

pub returns-clause-elements : goal.returns-clause-elements
returns-clause-elements g c =
    rw (← c.self.view_is) (IfOk-weaker c.to_bytes.result _ _ (λ bytes is. ap elements is
    ∙ elements-padded c.self.inside.bits.values (8 * length bytes.items - length c.self.inside.bits.values)) c.to_bytes.ensures.values)

pub returns-clause-members : goal.returns-clause-members
returns-clause-members g c =
    IfOk-weaker c.to_bytes.result _ _ (λ bytes is n. ap (λ s. has s n) (sym is) ∙ bits_of_bytes bytes.items n) (returns-clause-elements g c)
