use Rattle.std.proofs.{Common.{refl, arith}, lemmas.Bool.Decides.nat_tests}
use Rattle.uses.proofs.loops.all_below.Goals as goal

pub returns-then-member-n : goal.returns-then-member-n
returns-then-member-n g c = grind (arith, nat_tests, c.loop-member.invariant.rest c.in-Some.member)

pub loop-member-preserved : goal.loop-member-preserved
loop-member-preserved g c = record { can_next = tt; finite = tt; rest = λ x. grind (arith, nat_tests, c.loop-member.invariant.rest x) }

pub returns : goal.returns
returns g c = (λ _ x is. grind (arith, nat_tests, c.loop-member.invariant.rest x), λ _. refl)
