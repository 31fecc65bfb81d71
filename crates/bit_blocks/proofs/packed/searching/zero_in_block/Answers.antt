use Rattle.std.proofs.{Common.{◌+◌, ◌*◌, not, map, sym, ◌∙◌, arith}, lemmas.Bool.eqb-true}
use Rattle.bit_blocks.{specs.{Digits.is_one, Searches.IsFirstFrom, Storage.value_at}, proofs.{SearchLemmas.{first_from, none_from, read_zeros}, packed.searching.zero_in_block.Given.Over}}
use Rattle.bit_blocks.proofs.packed.searching.zero_in_block.Goals.{After-bits}
use Rattle.bit_blocks.proofs.packed.searching.zero_in_block.Goals as goal

pub returns-then-same : goal.returns-then-same
returns-then-same g c =
    let w = g.B.BitBlock.width in
    let ms = map g.B.BitBlock.number c.args.blocks.now in
    let zeros = g.B.BitBlock.number c.block_not.result in
    none_from w (λ j. not (value_at w ms j)) (is_one zeros) c.args.from c.block_index-k.result c.bit_index.result _ w
    (λ j index. read_zeros w ms _ _ _ zeros j c.block_index-k.ensures c.block_at.ensures.of_number
    c.block_not.ensures.of_digits index)
    c.block_index-k.ensures c.bit_index.ensures.value c.with_zeros_below-zeros.ensures.digits (eqb-true _ _ (sym c.same.ensures ∙ c.if-same.true) ∙ c.zero.ensures.of_number)

found : (g : Over) (c : After-bits g) → IsFirstFrom (λ j. not (value_at g.B.BitBlock.width
    (map g.B.BitBlock.number c.args.blocks.now) j)) c.args.from
    (c.block_index-k.result * c.bits.result + c.lowest_one-index.result)
found g c =
    let w = g.B.BitBlock.width in
    let ms = map g.B.BitBlock.number c.args.blocks.now in
    let zeros = g.B.BitBlock.number c.block_not.result in
    first_from w (λ j. not (value_at w ms j)) (is_one zeros) c.args.from c.block_index-k.result c.bit_index.result _
    c.bits.result (λ j index. read_zeros w ms _ _ _ zeros j c.block_index-k.ensures c.block_at.ensures.of_number
    c.block_not.ensures.of_digits index)
    c.block_index-k.ensures c.bit_index.ensures.value c.lowest_one-index.result c.bits.ensures
    c.lowest_one-index.ensures.within c.with_zeros_below-zeros.ensures.digits c.lowest_one-index.ensures.lowest

pub overflow_mul-result : goal.overflow_mul-result
overflow_mul-result g c = omega (arith, c.requires.fits _ (found g (goal.at.overflow_mul-result g c).After-bits))

pub overflow_add-result : goal.overflow_add-result
overflow_add-result g c = omega (arith, c.requires.fits _ (found g (goal.at.overflow_add-result g c).After-bits))

pub returns : goal.returns
returns g c = found g (goal.at.returns g c).After-bits
