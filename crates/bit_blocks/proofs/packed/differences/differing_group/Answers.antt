use Rattle.std.proofs.{Common.{◌≡◌, ◌+◌, ◌*◌, ◌≤◌, mul-le-mul_right, sym, ◌∙◌, arith}, lemmas.Bool.{false≢true}}
use Rattle.bit_blocks.proofs.BlockMergeLemmas.{same_more, same_none, same_part}
use Rattle.bit_blocks.proofs.packed.differences.differing_group.Goals as goal

pub loop-group-init : goal.loop-group-init
loop-group-init g c = same_none _ _ _ _ _ _ (omega arith)

pub loop-group-preserved : goal.loop-group-preserved
loop-group-preserved g c =
    let begin = c.args.start + c.loop-group.group * c.args.size in
    let next : begin + c.args.size ≡ c.args.start + (c.loop-group.group + 1) * c.args.size = omega arith in
    rw next at (same_more _ _ c.args.start begin (begin + c.args.size) _ _ c.loop-group.invariant (c.are_others.ensures.0 c.if-not-are_others.false))

pub returns-then-not-are_others-clause-same : goal.returns-then-not-are_others-clause-same
returns-then-not-are_others-clause-same g c = c.loop-group.invariant

pub returns-then-not-are_others-clause-stops : goal.returns-then-not-are_others-clause-stops
returns-then-not-are_others-clause-stops g c = λ below all.
    let next : c.loop-group.group + 1 ≤ c.args.groups = omega (arith, below) in
    let le = mul-le-mul_right c.args.size next in
    let at = c.args.start + c.loop-group.group * c.args.size in
    let here = c.are_others.ensures.1 (same_part _ _ c.args.start at (at + c.args.size) (c.args.start + c.args.groups * c.args.size) _ _ (omega arith) (omega (arith, le)) all) in
    false≢true (sym c.if-not-are_others.true ∙ here)
