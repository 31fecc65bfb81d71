use Rattle.std.proofs.Common.{◌≡◌, ◌+◌, ◌*◌, refl, arith}
use Rattle.bit_matrix.proofs.PartLemmas.{tracked_more, tracked_none}
use Rattle.bit_matrix.proofs.merges.merge_fours.Goals as goal

pub loop-four-init : goal.loop-four-init
loop-four-init g c = tracked_none _ _ _ _ c.args.start _ _ _ _ c.requires.can.each c.requires.can.seen (omega arith)

pub loop-four-preserved : goal.loop-four-preserved
loop-four-preserved g c =
    let begin = c.args.start + c.loop-four.four * 4 in
    let next : begin + 4 ≡ c.args.start + (c.loop-four.four + 1) * 4 = omega arith in
    tracked_more _ _ _ _ c.args.start begin _ begin (begin + 4) _ _ _ _ _ _ _ (omega arith) (omega (arith, next)) refl next c.loop-four.invariant c.merge_four-mismatch.ensures
