use Rattle.std.proofs.{Common.{◌≡◌, ◌+◌, ◌*◌, count_ones, take, ap, arith}, lemmas.List.{Elements.{All-same, All-take, All-drop}, Sums.sum_by-take-le}}
use Rattle.bit_blocks.{specs.Storage.ones_in, proofs.CountLemmas.ones_in-more}
use Rattle.bit_blocks.proofs.packed.ones.ones_of_groups.Goals as goal

pub add_ones-ones-requires-clause-each : goal.add_ones-ones-requires-clause-each
add_ones-ones-requires-clause-each g c =
    let is_block = g.B.BitBlock.is_block in
    All-same is_block _ _ c.group_from.ensures.part (All-take is_block 8 _ (All-drop is_block (c.loop-group.group * 8) c.args.blocks.now c.requires.each))

pub add_ones-ones-requires-clause-fits : goal.add_ones-ones-requires-clause-fits
add_ones-ones-requires-clause-fits g c =
    let number = g.B.BitBlock.number in
    let start = c.loop-group.group * 8 in
    let most = sum_by-take-le (λ x. count_ones (number x)) c.args.blocks.now (start + 8) in
    omega (arith, ap (ones_in number) c.group_from.ensures.part, ones_in-more number start 8 c.args.blocks.now, most, c.loop-group.invariant, c.requires.fits)

pub loop-group-preserved : goal.loop-group-preserved
loop-group-preserved g c =
    let number = g.B.BitBlock.number in
    let i = c.loop-group.group in
    let next = ap (λ m. ones_in number (take m c.args.blocks.now)) (let e : i * 8 + 8 ≡ (i + 1) * 8 = omega arith in e) in
    omega (arith, ap (ones_in number) c.group_from.ensures.part, next, ones_in-more number (i * 8) 8 c.args.blocks.now, c.add_ones-ones.ensures, c.loop-group.invariant)
