use Rattle.std.{specs.Result.is_err, proofs.Common.{◌≡◌, false, true, sym, ◌∙◌, ⊎_elim, inl, inr, vec_capacity, arith}}
use Rattle.bit_set_run.proofs.RunLemmas.{HasRun-more, StoppedAt-here, when_no_error, when_error}
use Rattle.bit_set_run.proofs.running.run.Goals as goal

pub loop-place-preserved : goal.loop-place-preserved
loop-place-preserved g c =
    let none : is_err c.execute.result ≡ false = sym c.is_err.ensures.value ∙ c.if-is_err.false in
    record {
      done =
          HasRun-more c.loop-place.place c.args.commands.now c.args.table.now c.loop-place.table c.execute.new.table
          c.args.replies.now.items c.loop-place.replies.items c.execute.new.replies.items c.index-commands-place.result
          c.loop-place.invariant.done c.loop-place-test.true c.index-commands-place.is
          (when_no_error c.execute.result none c.execute.ensures.sets) (when_no_error c.execute.result none c.execute.ensures.replies);
      capacity = omega (arith, c.loop-place.invariant.capacity, c.execute.ensures.capacity);
    }

pub returns-then-is_err-clause-memory : goal.returns-then-is_err-clause-memory
returns-then-is_err-clause-memory g c = λ k e.
    let some : is_err c.execute.result ≡ true = sym c.is_err.ensures.value ∙ c.if-is_err.true in
    let same : c.loop-place.place ≡ k = cc in
    let stopped = when_error c.execute.result some c.execute.ensures.stopped in
    rw (← same)
    (StoppedAt-here c.loop-place.place c.args.commands.now (vec_capacity c.args.replies.now) c.args.table.now c.loop-place.table c.execute.new.table
    c.args.replies.now.items c.loop-place.replies.items c.execute.new.replies.items c.index-commands-place.result
    c.loop-place.invariant.done c.loop-place-test.true c.index-commands-place.is
    (when_error c.execute.result some c.execute.ensures.kept)
    (⊎_elim (λ full. inl (omega (arith, full.0, c.loop-place.invariant.capacity), full.1)) (λ refused. inr refused) stopped))
