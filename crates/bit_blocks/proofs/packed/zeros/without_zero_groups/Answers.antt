use Rattle.std.proofs.{Common.{◌+◌, ◌-◌, ◌*◌, ◌<◌, ◌≤◌, length, ⊎_elim, arith}, lemmas.{Bool.cases_lt, List.{get_or_past, length-map}}}
use Rattle.bit_blocks.proofs.BlockMergeLemmas.{zeros_same}
use Rattle.bit_blocks.proofs.packed.zeros.without_zero_groups.Goals as goal

pub loop-group-init : goal.loop-group-init
loop-group-init g c = λ k past. get_or_past _ k 0 (rw length-map (omega arith))

pub loop-group-preserved : goal.loop-group-preserved
loop-group-preserved g c = λ k past.
    let end = length c.args.blocks.now - c.loop-group.group * 8 in
    ⊎_elim
    (λ (here : k < end).
    zeros_same g.B.BitBlock.width g.B.BitBlock.number g.B.BitBlock.is_block (end - 8) (end - 8 + 8) c.args.blocks.now
    (λ x block. (g.met.B.BitBlock.number_law x block).0) c.requires.each (c.are_others.ensures.0 c.if-not-are_others.false) k
    (omega arith) (omega arith))
    (λ (late : end ≤ k). c.loop-group.invariant k late)
    (cases_lt k end)

pub returns-then-not-are_others-clause-zeros : goal.returns-then-not-are_others-clause-zeros
returns-then-not-are_others-clause-zeros g c = c.loop-group.invariant

pub returns-clause-zeros : goal.returns-clause-zeros
returns-clause-zeros g c = λ k past. c.loop-group.invariant k (omega arith)
