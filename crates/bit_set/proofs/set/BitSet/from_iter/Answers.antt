use Rattle.std.proofs.{Common.subst, lemmas.Result.err_from_is_err_and}
use Rattle.bit_set.{specs.Capacity.IsPastBlocks, proofs.{ChainLemmas.run_to_end, ItemLemmas.{TakesIn-empty, TakesIn-past, IsInsertFault-fault}}}
use Rattle.bit_set.proofs.set.BitSet.from_iter.Goals as goal

pub returns-clause-ok : goal.returns-clause-ok
returns-clause-ok g c =
    let done = c.in_ok-extend.ensures.ok in
    let took = TakesIn-empty done.0 c.new_general-set.result.values c.extend.new.self.values c.new_general-set.ensures.values done.2 in
    (done.0, done.1, took.0, took.1, took.2)

pub returns-clause-runs : goal.returns-clause-runs
returns-clause-runs g c =
    let done = c.in_ok-extend.ensures.ok in
    let took = TakesIn-empty done.0 c.new_general-set.result.values c.extend.new.self.values c.new_general-set.ensures.values done.2 in
    run_to_end g.I.Iterator.next_gives _ _ done.0 done.1 (took.0, took.1, took.2)

pub returns-in_err-extend-clause-err : goal.returns-in_err-extend-clause-err
returns-in_err-extend-clause-err g c =
    let p = err_from_is_err_and c.from_residual.result c.from_residual.ensures.1 in
    let stopped = c.in_err-extend.ensures.err in
    let fault = IsInsertFault-fault c.in_err-extend.field-0.0 stopped.1 c.extend.new.self.capacity stopped.6 in
    let took = TakesIn-empty stopped.0 c.new_general-set.result.values c.extend.new.self.values c.new_general-set.ensures.values stopped.4 in
    let past = TakesIn-past stopped.0 stopped.1 c.new_general-set.result.values c.extend.new.self.values
    c.in_err-extend.field-0.0 c.extend.new.self.capacity c.new_general-set.ensures.values stopped.4 stopped.5 stopped.6 in
    rw (p.1, p.2) (stopped.0, stopped.1, stopped.2, stopped.3, past.0, past.1, fault.0, fault.1, subst (λ n. IsPastBlocks c.in_err-extend.field-0.0 g.B.BitBlock.width n stopped.1) took.1 stopped.7)
