use Rattle.std.proofs.Common.{ap, ◌∙◌}
use Rattle.free_slots.proofs.SlotLemmas.{made}
use Rattle.free_slots.proofs.Slots.with_slots.Goals as goal

pub returns-clause-free : goal.returns-clause-free
returns-clause-free g c =
    made c.args.n c.from_bit_vec_general.result.values (ap (λ v. v.values) c.from_bit_vec_general.ensures.value ∙ c.in_ok-all.ensures.values)
