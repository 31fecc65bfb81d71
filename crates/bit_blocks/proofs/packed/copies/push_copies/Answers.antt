use Rattle.std.proofs.{Common.{◌≡◌, ◌-◌, vec_len, arith}, lemmas.List.Elements.{All-same, All-push}}
use Rattle.bit_blocks.proofs.PackedLemmas.{map-pushed}
use Rattle.bit_blocks.proofs.packed.copies.push_copies.Goals as goal

pub returns-in-1-clause-numbers : goal.returns-in-1-clause-numbers
returns-in-1-clause-numbers g c =
    let one : c.args.count - vec_len c.args.blocks.now ≡ 1 = omega arith in
    rw one (map-pushed g.B.BitBlock.number _ _ c.args.block c.push_reserved.ensures.items)

pub returns-in-1-clause-each : goal.returns-in-1-clause-each
returns-in-1-clause-each g c =
    All-same g.B.BitBlock.is_block _ _ c.push_reserved.ensures.items (All-push g.B.BitBlock.is_block _ _ c.requires.each c.requires.of_block)
