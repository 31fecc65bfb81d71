use Rattle.std.proofs.{Common.{◌≡◌, ◌-◌, ◌*◌, ◌&&◌, ◌∙◌, map, length, get_or, ap, sym, arith}, lemmas.{Bool.le-leb, List.length-map}, Math.Nat.zero-div}
use Rattle.bit_blocks.specs.Digits.{is_one}
use Rattle.bit_set.proofs.{FromLemmas.{BeginsFrom, begins_from, last_fits, starts_at_all}, walk.Iter.over.Goals.After-bits}
use Rattle.bit_set.proofs.walk.Iter.over.Goals as goal

-- the walk as it is made
begun : (g : _) (c : After-bits g) → BeginsFrom g.B.BitBlock.width g.B.BitBlock.number g.B.BitBlock.is_block c.args.bits.now.values 0
    (record { block = c.block_or_zero.result; index = 0 }) c.nonzero_past_first.result (record { block = c.zero.result; index = c.saturating_sub.result * c.bits.result })
begun g c =
    let w = g.B.BitBlock.width in
    let number = g.B.BitBlock.number in
    let t = c.nonzero_past_first.result in
    let made = c.nonzero_past_first.ensures in
    let here : number c.block_or_zero.result ≡ get_or (map number t.blocks) 0 0 = c.block_or_zero.ensures.of_number ∙ ap (λ ms. get_or ms 0 0) (c.storage-blocks.ensures.numbers ∙ sym made.blocks) in
    let none : 0 * w ≡ 0 = omega arith in
    let same = made.blocks ∙ sym c.storage-blocks.ensures.numbers in
    let count : length t.blocks ≡ length c.storage-blocks.result.now = sym (length-map t.blocks number) ∙ ap length same ∙ length-map c.storage-blocks.result.now number in
    rw (c.bits.ensures, c.saturating_sub.ensures, ← count)
    (rw none at (begins_from w number g.B.BitBlock.is_block c.args.bits.now.values 0 0 c.block_or_zero.result c.zero.result t g.met.B.BitBlock.width_law.positive
    (λ x is. (g.met.B.BitBlock.number_law x is).0)
    (record { numbers = made.blocks; each = made.each; start = made.start; fits = omega (arith, made.fits.holds_values, made.fits.fits) })
    c.block_or_zero.ensures.of_block c.zero.ensures.of_block c.zero.ensures.of_number
    (record { at = omega (arith, zero-div w); digit = λ j to. ap (λ m. is_one m j) here ∙ ap (λ b. b && is_one (get_or (map number t.blocks) 0 0) j) (sym (le-leb (0 - 0 * w) j (omega arith))) })))

pub invariant_of-result : goal.invariant_of-result
invariant_of-result g c = (begun g c).walk

pub overflow_mul-result : goal.overflow_mul-result
overflow_mul-result g c =
    let w = g.B.BitBlock.width in
    let number = g.B.BitBlock.number in
    let made = c.storage-blocks.ensures in
    let fits = last_fits w number c.storage-blocks.result.now c.args.bits.now.values g.met.B.BitBlock.width_law.positive made.numbers (omega (arith, made.fits.holds_values, made.fits.fits)) in
    record { fits = rw (c.bits.ensures, c.saturating_sub.ensures) fits }

pub returns : goal.returns
returns g c = starts_at_all g.B.BitBlock.width c.args.bits.now.values _ g.met.B.BitBlock.width_law.positive (begun g c).start
