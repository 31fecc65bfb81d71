use Rattle.std.proofs.{Common.{sym, ap, arith}, lemmas.Bool.true≢false}
use Rattle.bit_blocks.{specs.Bits.blocks_for, proofs.VectorLemmas.{blocks_for-none, packed_nil}}
use Rattle.bit_blocks.proofs.packed.resizing.repeated_bit.Goals as goal

pub append_bits-requires-clause-packed : goal.append_bits-requires-clause-packed
append_bits-requires-clause-packed g c = packed_nil _ _ _ _ g.met.B.BitBlock.width_law.positive c.in_ok-blocks.ensures.items

pub returns-in_err-blocks-clause-empty : goal.returns-in_err-blocks-clause-empty
returns-in_err-blocks-clause-empty g c = λ none.
    let w = g.B.BitBlock.width in
    absurd (true≢false (sym (c.in_err-blocks.ensures.succeeds (omega (arith, ap (blocks_for w) none, blocks_for-none w g.met.B.BitBlock.width_law.positive, c.block_count.ensures)))))
