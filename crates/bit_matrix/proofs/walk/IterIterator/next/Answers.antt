use Rattle.std.proofs.{Common.{◌≡◌, [], length, map, sym, ap, ◌∙◌, arith, subst}, lemmas.List.drop_all}
use Rattle.bit_set.specs.{Indexes.values_in, Sets.AscendsFrom}
use Rattle.bit_set.proofs.{IndexLemmas.AscendsFrom-indexes, MemberLemmas.takes_least, WalkLemmas.indexes-ended}
use Rattle.bit_matrix.proofs.{WalkLemmas.{row_next, row_taken}, walk.IterIterator.next.Goals.After-split_first}
use Rattle.bit_matrix.proofs.walk.IterIterator.next.Goals as goal

-- the block in hand is used up where the loop goes on
used_up : (g : _) (c : After-split_first g) → g.B.BitBlock.number c.loop-self.self-inside.block ≡ 0
used_up g c =
    (g.met.B.BitBlock.eq_law c.loop-self.self-inside.block c.zero.result c.loop-self.invariant.walk.in_hand
    c.zero.ensures.of_block).0 (sym c.eq.ensures ∙ c.loop-self-test.true) ∙ c.zero.ensures.of_number

pub returns-in_err-first-clause-steps : goal.returns-in_err-first-clause-steps
returns-in_err-first-clause-steps g c =
    let w = g.B.BitBlock.width in
    let it = c.loop-self.self-inside in
    let none : it.rest.now ≡ [] = drop_all 0 it.rest.now (omega (arith, c.in_err-first.ensures.cases)) in
    let zero = used_up g (goal.at.returns-in_err-first-clause-steps g c).After-split_first in
    let ended = indexes-ended w it.index (g.B.BitBlock.number it.block) (values_in w (map g.B.BitBlock.number it.rest.now)) zero (ap (λ xs. values_in w (map g.B.BitBlock.number xs)) none) in
    rw c.from_residual.ensures (record { item = (sym c.loop-self.invariant.left ∙ ended, ended); first = tt })

pub loop-self-preserved : goal.loop-self-preserved
loop-self-preserved g c =
    let zero = used_up g (goal.at.loop-self-preserved g c).After-split_first in
    let next = row_next g.B.BitBlock.width g.B.BitBlock.number g.B.BitBlock.is_block _ c.in_ok-first.rest.now _
    c.in_ok-first.first.now _ c.loop-self.invariant.walk zero c.in_ok-first.ensures.cases.0 in
    rw c.bits.ensures (record { walk = next.0; left = next.1 ∙ c.loop-self.invariant.left })

pub overflow_add-result : goal.overflow_add-result
overflow_add-result g c =
    let taken = c.take_lowest_one.ensures in
    record { fits = omega (arith, (row_taken _ _ _ _ _ _ _ _ c.loop-self.invariant.walk taken.of_block taken.lowest taken.within taken.cleared).1) }

pub invariant_of-self-2 : goal.invariant_of-self-2
invariant_of-self-2 g c =
    let taken = c.take_lowest_one.ensures in
    (row_taken _ _ _ _ _ _ _ _ c.loop-self.invariant.walk taken.of_block taken.lowest taken.within taken.cleared).0

pub returns-clause-steps : goal.returns-clause-steps
returns-clause-steps g c =
    let it = c.loop-self.self-inside in
    let taken = c.take_lowest_one.ensures in
    let item = sym c.loop-self.invariant.left ∙ (row_taken _ _ _ _ _ _ _ _ c.loop-self.invariant.walk taken.of_block taken.lowest taken.within taken.cleared).2 in
    let up = AscendsFrom-indexes g.B.BitBlock.width it.index (g.B.BitBlock.number it.block) (values_in g.B.BitBlock.width (map g.B.BitBlock.number it.rest.now)) in
    record { item = item; first = takes_least it.index _ _ _ (subst (AscendsFrom it.index) c.loop-self.invariant.left up) item }

pub returns-clause-goes : goal.returns-clause-goes
returns-clause-goes g c = record { on = λ _. (tt, tt, omega (arith, ap length (returns-clause-steps g c).item)); keeps = tt; rests = λ _. tt }
