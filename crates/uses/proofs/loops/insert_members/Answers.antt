use Rattle.std.proofs.{Common.arith, lemmas.Bool.Decides.nat_tests}
use Rattle.uses.proofs.loops.insert_members.Goals as goal

pub loop-member-preserved : goal.loop-member-preserved
loop-member-preserved g c = record { can_next = tt; finite = tt; rest = λ x. grind (arith, nat_tests, c.loop-member.invariant.rest x) }
