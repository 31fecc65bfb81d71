use Rattle.std.proofs.Common.{◌≡◌, ◌+◌, ◌*◌, map, sym, ap, ◌∙◌, arith}
use Rattle.bit_blocks.specs.{Digits.is_one, Storage.value_at}
use Rattle.bit_blocks.proofs.{ShiftLemmas.joined, StorageLemmas.value_at-index}
use Rattle.bit_blocks.proofs.packed.shifting.block_from.Goals as goal

pub returns-then-low-eq0-clause-digits : goal.returns-then-low-eq0-clause-digits
returns-then-low-eq0-clause-digits g c j within =
    let w = g.B.BitBlock.width in
    let ms = map g.B.BitBlock.number c.args.blocks.now in
    ap (λ m. is_one m j) c.block_or_zero-block.ensures.of_number
    ∙ sym (value_at-index w ms c.args.k j within)
    ∙ ap (value_at w ms) (let e : c.args.k * w + j ≡ c.args.k * w + (c.args.low + j) = omega (arith, c.if-low-eq0.true) in e)

pub returns-clause-digits : goal.returns-clause-digits
returns-clause-digits g c j within =
    joined g.B.BitBlock.width (map g.B.BitBlock.number c.args.blocks.now) c.args.k c.args.low j _ _ _ c.requires.within within
    (rw c.block_or_zero-block.ensures.of_number at c.shift_right.ensures.of_digits)
    (rw (c.bits.ensures, c.block_or_zero-next.ensures.of_number) at c.shift_left-high.ensures.of_digits)
    c.block_or.ensures.of_digits
