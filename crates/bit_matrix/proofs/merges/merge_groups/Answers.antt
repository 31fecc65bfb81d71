use Rattle.std.proofs.Common.{◌≡◌, ◌+◌, ◌*◌, refl, arith}
use Rattle.bit_matrix.proofs.PartLemmas.{tracked_more, tracked_none}
use Rattle.bit_matrix.proofs.merges.merge_groups.Goals as goal

pub loop-group-init : goal.loop-group-init
loop-group-init g c = tracked_none _ _ _ _ 0 _ _ _ _ c.requires.can.each c.requires.can.seen (omega arith)

pub loop-group-preserved : goal.loop-group-preserved
loop-group-preserved g c =
    let begin = c.loop-group.group * 16 in
    let next : begin + 4 * 4 ≡ (c.loop-group.group + 1) * 16 = omega arith in
    tracked_more _ _ _ _ 0 begin _ begin (begin + 4 * 4) _ _ _ _ _ _ _ (omega arith) (omega (arith, next)) refl next c.loop-group.invariant c.merge_fours-mismatch.ensures
