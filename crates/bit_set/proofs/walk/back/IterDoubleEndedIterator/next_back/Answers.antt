use Rattle.std.proofs.Common.{ℕ, ◌+◌, ◌-◌, ◌<◌, ◌^◌, length, length-append, Some, ap, arith}
use Rattle.bit_set.specs.{Indexes.{seen_of, IsSparseWalk}, Walk.AdvancesBack}
use Rattle.bit_set.proofs.{SparseLemmas.{refilled_back, refilled_back-end, given_last}, walk.back.IterDoubleEndedIterator.next_back.Goals.After-take_highest_one}
use Rattle.bit_set.proofs.walk.back.IterDoubleEndedIterator.next_back.Goals as goal

-- the last element, out of the block that has it
given : (g : _) (c : After-take_highest_one g) →
    let old = c.self.inside in
    let new = c.refill_back.new in
    let x = new.back_index + c.take_highest_one.result in
    IsSparseWalk g.B.BitBlock.width g.B.BitBlock.number g.B.BitBlock.is_block (record { block = new.block; index = old.index }) new.self
    (record { block = c.take_highest_one.new.block; index = new.back_index }) × (x < 2 ^ 64 - 1)
    × AdvancesBack g.B.BitBlock.width
    (seen_of g.B.BitBlock.width g.B.BitBlock.number (record { block = old.block; index = old.index }) old.nonzero (record { block = old.back; index = old.back_index })) (Some x)
    (seen_of g.B.BitBlock.width g.B.BitBlock.number (record { block = new.block; index = old.index }) new.self (record { block = c.take_highest_one.new.block; index = new.back_index }))
given g c =
    let pos = g.met.B.BitBlock.width_law.positive in
    let taken = c.take_highest_one.ensures in
    given_last g.B.BitBlock.width g.B.BitBlock.number g.B.BitBlock.is_block pos _ _ _ _ _ _
    (refilled_back g.B.BitBlock.width g.B.BitBlock.number g.B.BitBlock.is_block pos _ _ _ _ _ _ c.self.invariant
    c.if-not-refill_back.ensures.of_back c.if-not-refill_back.ensures.of_block c.if-not-refill_back.ensures.refills)
    taken.of_block (g.met.B.BitBlock.number_law _ taken.of_block).0 taken.highest taken.within taken.cleared

pub invariant_of-self : goal.invariant_of-self
invariant_of-self g c =
    (refilled_back-end g.B.BitBlock.width g.B.BitBlock.number g.B.BitBlock.is_block g.met.B.BitBlock.width_law.positive _ _ _ _ _ _ c.self.invariant c.if-not-refill_back.ensures.refills).0

pub returns-then-not-refill_back-clause-steps : goal.returns-then-not-refill_back-clause-steps
returns-then-not-refill_back-clause-steps g c = rw (← c.self.view_is)
    (refilled_back-end g.B.BitBlock.width g.B.BitBlock.number g.B.BitBlock.is_block g.met.B.BitBlock.width_law.positive _ _ _ _ _ _ c.self.invariant c.if-not-refill_back.ensures.refills).1

pub overflow_add-result : goal.overflow_add-result
overflow_add-result g c = omega (arith, (given g (goal.at.overflow_add-result g c).After-take_highest_one).1)

pub invariant_of-self-2 : goal.invariant_of-self-2
invariant_of-self-2 g c = (given g (goal.at.invariant_of-self-2 g c).After-take_highest_one).0

pub returns-clause-steps : goal.returns-clause-steps
returns-clause-steps g c = rw (← c.self.view_is) (given g (goal.at.returns-clause-steps g c).After-take_highest_one).2

pub returns-clause-goes : goal.returns-clause-goes
returns-clause-goes g c =
    let item = (returns-clause-steps g c).item in
    record { on = λ _. (tt, tt, omega (arith, ap length item, length-append {A = ℕ})); keeps = tt; rests = λ _. tt }
