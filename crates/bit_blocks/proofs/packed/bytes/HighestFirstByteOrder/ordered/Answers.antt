use Rattle.std.proofs.Common.{◌≡◌, ◌-◌, ap, ◌∙◌, arith}
use Rattle.bit_blocks.{specs.Digits.{is_one}, proofs.ByteLemmas.{is_one-turned}}
use Rattle.bit_blocks.proofs.packed.bytes.HighestFirstByteOrder.ordered.Goals as goal

pub returns : goal.returns
returns c = record {
  there = λ j index.
      let back : 7 - (7 - j) ≡ j = omega (arith, index) in
      ap (λ n. is_one n (7 - j)) c.reverse_bits.ensures ∙ is_one-turned c.args.byte (7 - j) (omega arith) ∙ ap (is_one c.args.byte) back;
  back = λ j index. ap (λ n. is_one n j) c.reverse_bits.ensures ∙ is_one-turned c.args.byte j index;
}
