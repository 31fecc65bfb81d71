use Rattle.std.proofs.{Common.{◌+◌, ◌*◌, map, sym, ◌∙◌, arith}, lemmas.Bool.eqb-true}
use Rattle.bit_blocks.{specs.{Digits.is_one, Searches.IsLastBefore, Storage.value_at}, proofs.{SearchLemmas.{last_before, none_before, read_block}, packed.searching.last_in_block.Given.Over}}
use Rattle.bit_blocks.proofs.packed.searching.last_in_block.Goals.{After-bits}
use Rattle.bit_blocks.proofs.packed.searching.last_in_block.Goals as goal

pub returns-then-same : goal.returns-then-same
returns-then-same g c =
    let w = g.B.BitBlock.width in
    let ms = map g.B.BitBlock.number c.args.blocks.now in
    let n = g.B.BitBlock.number c.block_or_zero.result in
    none_before w (value_at w ms) (is_one n) c.args.end c.block_index-k.result c.bit_index.result _ w
    (λ j index. read_block w ms _ _ n j c.block_index-k.ensures c.block_or_zero.ensures.of_number index)
    c.block_index-k.ensures c.bit_index.ensures.value
    g.met.B.BitBlock.width_law.positive c.with_zeros_from-rest.ensures.digits (eqb-true _ _ (sym c.same.ensures ∙ c.if-same.true) ∙ c.zero.ensures.of_number)

found : (g : Over) (c : After-bits g) → IsLastBefore (value_at g.B.BitBlock.width
    (map g.B.BitBlock.number c.args.blocks.now)) c.args.end (c.block_index-k.result * c.bits.result + c.highest_one-index.result)
found g c =
    let w = g.B.BitBlock.width in
    let ms = map g.B.BitBlock.number c.args.blocks.now in
    let n = g.B.BitBlock.number c.block_or_zero.result in
    last_before w (value_at w ms) (is_one n) c.args.end c.block_index-k.result c.bit_index.result _ c.bits.result
    (λ j index. read_block w ms _ _ n j c.block_index-k.ensures c.block_or_zero.ensures.of_number index)
    c.block_index-k.ensures c.bit_index.ensures.value
    c.highest_one-index.result c.bits.ensures g.met.B.BitBlock.width_law.positive c.highest_one-index.ensures.within c.with_zeros_from-rest.ensures.digits c.highest_one-index.ensures.highest

pub overflow_mul-result : goal.overflow_mul-result
overflow_mul-result g c = omega (arith, (found g (goal.at.overflow_mul-result g c).After-bits).before)

pub overflow_add-result : goal.overflow_add-result
overflow_add-result g c = omega (arith, (found g (goal.at.overflow_add-result g c).After-bits).before)

pub returns : goal.returns
returns g c = found g (goal.at.returns g c).After-bits
