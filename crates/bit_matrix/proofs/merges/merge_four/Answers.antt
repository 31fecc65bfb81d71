use Rattle.std.proofs.Common.{◌+◌, ◌^◌, ◌<◌, ◌≤◌, length, refl, arith}
use Rattle.bit_matrix.proofs.PartLemmas.{tracked_next, tracked_none}
use Rattle.bit_matrix.proofs.merges.merge_four.Goals as goal

pub returns : goal.returns
returns g c =
    let law : (x : g.row.B.Denot) → g.B.BitBlock.is_block x → g.B.BitBlock.number x < 2 ^ g.B.BitBlock.width = λ x is. (g.met.B.BitBlock.number_law x is).0 in
    let k = c.args.start in
    let within : k + 4 ≤ length c.args.others.now = c.requires.within in
    let none = tracked_none _ _ _ _ k k _ c.args.others.now _ c.requires.can.each c.requires.can.seen (omega arith) in
    let one = tracked_next _ _ _ _ k k k (k + 1) _ _ _ _ _ _ _ _ law c.requires.can.fewer (omega (arith, within))
    (omega arith) refl refl none c.merged_at-first.ensures c.put_in.ensures.numbers c.put_in.ensures.each c.put_in.ensures.len in
    let two = tracked_next _ _ _ _ k (k + 1) (k + 1) (k + 2) _ _ _ _ _ _ _ _ law c.requires.can.fewer (omega (arith, within))
    (omega arith) refl (omega arith) one c.merged_at-second.ensures c.put_in-2.ensures.numbers c.put_in-2.ensures.each
    c.put_in-2.ensures.len in
    let three = tracked_next _ _ _ _ k (k + 2) (k + 2) (k + 3) _ _ _ _ _ _ _ _ law c.requires.can.fewer
    (omega (arith, within)) (omega arith) refl (omega arith) two c.merged_at-third.ensures c.put_in-3.ensures.numbers
    c.put_in-3.ensures.each c.put_in-3.ensures.len in
    tracked_next _ _ _ _ k (k + 3) (k + 3) (k + 4) _ _ _ _ _ _ _ _ law c.requires.can.fewer (omega (arith, within))
    (omega arith) refl (omega arith) three c.merged_at-fourth.ensures c.put_in-4.ensures.numbers c.put_in-4.ensures.each
    c.put_in-4.ensures.len
