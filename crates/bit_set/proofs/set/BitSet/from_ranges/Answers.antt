use Rattle.std.proofs.lemmas.Result.{err_from_is_err_and}
use Rattle.bit_set.proofs.RangeTextLemmas.{fault_is}
use Rattle.bit_set.proofs.set.BitSet.from_ranges.Goals as goal

pub returns-in_err-end-clause-fault : goal.returns-in_err-end-clause-fault
returns-in_err-end-clause-fault g c =
    let p = err_from_is_err_and c.from_residual.result c.from_residual.ensures.1 in
    rw (p.1, p.2) (fault_is c.args.text.now _ (rw c.as_bytes-bytes.ensures.value at c.in_err-end.ensures.fault))
