use Rattle.std.proofs.{Common.{◌∙◌, ap, sum, arith}, lemmas.List.Sums.sum_by-cons}
use Rattle.uses.proofs.loops.sum_of_members.Goals as goal

pub loop-member-preserved : goal.loop-member-preserved
loop-member-preserved g c =
    let left = ap sum c.in-Some.ensures.steps.item ∙ sum_by-cons (λ x. x) c.in-Some.member c.next.new.self.left in
    record { can_next = tt; finite = tt; rest = omega (arith, left, c.in_ok-total.ensures) }

pub returns-in_err-total-clause-none : goal.returns-in_err-total-clause-none
returns-in_err-total-clause-none g c =
    let left = ap sum c.in-Some.ensures.steps.item ∙ sum_by-cons (λ x. x) c.in-Some.member c.next.new.self.left in
    rw c.from_residual.ensures (omega (arith, left, c.in_err-total.ensures))
