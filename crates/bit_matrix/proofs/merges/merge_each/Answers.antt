use Rattle.std.proofs.Common.{◌≡◌, ◌+◌, ◌^◌, ◌<◌, ◌≤◌, refl, arith}
use Rattle.bit_matrix.proofs.PartLemmas.{tracked_more, tracked_none, tracked_put}
use Rattle.bit_matrix.proofs.merges.merge_each.Goals as goal

pub loop-k-init : goal.loop-k-init
loop-k-init g c = tracked_none _ _ _ _ c.args.start _ _ _ _ c.requires.can.each c.requires.can.seen (omega arith)

pub loop-k-preserved : goal.loop-k-preserved
loop-k-preserved g c =
    let law : (x : g.row.B.Denot) → g.B.BitBlock.is_block x → g.B.BitBlock.number x < 2 ^ g.B.BitBlock.width = λ x is. (g.met.B.BitBlock.number_law x is).0 in
    let at = c.args.start + c.loop-k.k in
    let next : at + 1 ≡ c.args.start + (c.loop-k.k + 1) = omega arith in
    let early : c.args.start ≤ at = omega arith in
    let late : at ≤ c.args.start + (c.loop-k.k + 1) = omega arith in
    let before = c.loop-k.invariant in
    let one = tracked_put _ _ _ _ at c.loop-k.blocks c.args.others.now c.loop-k.blocks _ _ _ _ law before.has.each
    (omega (arith, before.has.len, c.requires.can.fewer, c.requires.within)) refl c.merged_at-merged.ensures
    c.put_in.ensures.numbers c.put_in.ensures.each c.put_in.ensures.len in
    tracked_more _ _ _ _ c.args.start at _ at (at + 1) _ _ _ _ _ _ _ early late refl next before one
