use Rattle.std.proofs.Common.{sym, refl, arith}
use Rattle.bit_set.proofs.CallerLemmas.{set_steps}
use Rattle.uses.proofs.loops.has_neighbours.Goals as goal

pub loop-member-preserved : goal.loop-member-preserved
loop-member-preserved g c = record { can_next = tt; finite = tt; rest = λ x. grind (arith, set_steps, c.loop-member.invariant.rest x) }

pub returns-then-contains : goal.returns-then-contains
returns-then-contains g c = (λ _. (c.in-Some.member, sym c.if-prove.ensures.value, sym c.if-contains.ensures.value), λ _. refl)

pub returns : goal.returns
returns g c = (λ no. cc, λ found. grind (arith, set_steps, c.loop-member.invariant.rest found.0))
