use Rattle.std.proofs.{Common.arith, lemmas.Bool.Decides.nat_tests, lemmas.Grind.common_steps}
use Rattle.uses.proofs.loops.follow.Goals as goal

pub loop-seen-preserved : goal.loop-seen-preserved
loop-seen-preserved g c = record { starts = grind (arith, nat_tests); closed = λ k d. grind (arith, common_steps, c.loop-seen.invariant.closed k d) }

pub loop-seen-smaller : goal.loop-seen-smaller
loop-seen-smaller g c = grind (arith, nat_tests)

pub returns-then-at-next-clause-starts : goal.returns-then-at-next-clause-starts
returns-then-at-next-clause-starts g c = grind (arith, nat_tests)

pub returns-then-at-next-clause-closed : goal.returns-then-at-next-clause-closed
returns-then-at-next-clause-closed g c = λ k d. grind (arith, nat_tests, c.loop-seen.invariant.closed k d)

pub returns-clause-starts : goal.returns-clause-starts
returns-clause-starts g c = grind (arith, nat_tests)

pub returns-clause-closed : goal.returns-clause-closed
returns-clause-closed g c = λ k d. grind (arith, nat_tests, c.loop-seen.invariant.closed k d)
