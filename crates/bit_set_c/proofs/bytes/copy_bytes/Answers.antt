use Rattle.std.proofs.Common.{◌≡◌, ◌+◌, ◌*◌, ◌/◌, ◌%◌, ◌∙◌, ap, arith, length}
use Rattle.bit_blocks.{proofs.BitsLemmas.length-blocks_of, specs.Bits.{blocks_for}}
use Rattle.bit_set.specs.Sets.{elements, has}
use Rattle.bit_set_c.{proofs.BlockNumbers.digit_is_member, specs.Block.width}
use Rattle.bit_set_c.proofs.bytes.copy_bytes.Goals as goal

pub put_range-requires-clause-within : goal.put_range-requires-clause-within
put_range-requires-clause-within c =
    let blocks : length c.blocks_from.result.now ≡ blocks_for width (length c.args.set.now.values) = ap length c.blocks_from.ensures ∙ length-blocks_of width c.args.set.now.values in
    let len = c.len.ensures.value ∙ ap (λ bits. length bits.values) c.get_ref.ensures in
    omega (arith, blocks, len, c.min-from.ensures, c.min-count.ensures, c.div_ceil-all.ensures)

pub returns-clause-members : goal.returns-clause-members
returns-clause-members c =
    let values = c.args.set.now.values in
    let step = width / 8 in
    λ q j below within.
    let n = c.min-from.result + q in
    let digit = 8 * (n % step) + j in
    let same : n ≡ c.args.from + q = omega (arith, below, c.min-from.ensures, c.min-count.ensures) in
    let number : (0 + n / step) * width + digit ≡ 8 * (c.args.from + q) + j = omega (arith, same) in
    c.put_range.ensures.digits q j below within
    ∙ digit_is_member _ values 0 (n / step) digit c.blocks_from.ensures (omega (arith, within))
    ∙ ap (has (elements values)) number
