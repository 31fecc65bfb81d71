use Rattle.std.proofs.Common.{◌∙◌, ap, arith}
use Rattle.bit_blocks.{specs.Digits.{is_one}, proofs.ByteLemmas.{byte_added}}
use Rattle.bit_blocks.proofs.packed.bytes.block_of_first.Goals as goal

pub loop-index-preserved : goal.loop-index-preserved
loop-index-preserved g c = record {
  of_block = c.block_or-block.ensures.of_block;
  digits = byte_added _ _ _ _ _ _ c.loop-index.index g.T.ByteOrder.place c.args.bytes.now c.loop-index.invariant.digits
      (λ i index. ap (λ n. is_one n i) c.from_byte-digits.ensures.of_number ∙ c.ordered.ensures.back i index) (omega arith)
      (omega arith) c.shift_left.ensures.of_digits c.block_or-block.ensures.of_digits;
}
