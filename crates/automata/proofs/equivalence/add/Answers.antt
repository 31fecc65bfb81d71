use Rattle.std.proofs.{Common.{refl, sym, ◌∙◌}, lemmas.Bool.{not-false, not-true}}
use Rattle.automata.proofs.equivalence.add.Goals as goal

pub returns-in_err-push-clause-met : goal.returns-in_err-push-clause-met
returns-in_err-push-clause-met g c = c.insert.ensures.members

pub returns-in_ok-push-clause-met : goal.returns-in_ok-push-clause-met
returns-in_ok-push-clause-met g c = c.insert.ensures.members

pub returns-in_ok-push-clause-queue : goal.returns-in_ok-push-clause-queue
returns-in_ok-push-clause-queue g c = rw (not-true _ (sym c.insert.ensures.new ∙ c.if-insert.true)) c.in_ok-push.ensures.items

pub returns-else-insert-clause-met : goal.returns-else-insert-clause-met
returns-else-insert-clause-met g c = c.insert.ensures.members

pub returns-else-insert-clause-queue : goal.returns-else-insert-clause-queue
returns-else-insert-clause-queue g c = rw (not-false _ (sym c.insert.ensures.new ∙ c.if-insert.false)) refl
