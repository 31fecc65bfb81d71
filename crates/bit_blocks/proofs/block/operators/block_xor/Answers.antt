use Rattle.bit_blocks.proofs.block.operators.block_xor.Goals as goal

pub bitxor-requires : goal.bitxor-requires
bitxor-requires g c = g.met.B.BitBlock.can_xor c.args.a c.args.b c.requires.left c.requires.right

pub returns : goal.returns
returns g c =
    let (of_block, digits) = g.met.B.BitBlock.xor_law c.args.a c.args.b c.bitxor.result c.requires.left c.requires.right c.bitxor.ensures in
    record { of_block = of_block; of_digits = digits }
