use Rattle.std.proofs.{Common.sym, lemmas.Result.IfOk-weaker}
use Rattle.bit_set.proofs.ByteLemmas.{low_bits_of_bytes}
use Rattle.bit_set.proofs.set.BitSet.to_bytes_lsb.Goals as goal

pub returns-clause-members : goal.returns-clause-members
returns-clause-members g c =
    rw (← c.self.view_is) (IfOk-weaker c.to_bytes_lsb.result _ _ (λ bytes is. low_bits_of_bytes c.self.inside.bits.values bytes.items (sym is)) c.to_bytes_lsb.ensures.values)
