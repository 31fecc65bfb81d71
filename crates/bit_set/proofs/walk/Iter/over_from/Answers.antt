use Rattle.std.proofs.{Common.{◌≡◌, ◌-◌, ◌*◌, ◌/◌, ◌&&◌, leb, min, length, get_or, ap, sym, subst, ◌∙◌, arith}, lemmas.List.length-map}
use Rattle.bit_blocks.specs.Digits.{is_one}
use Rattle.bit_words.specs.Nonzero.{StartsPast}
use Rattle.bit_set.proofs.{FromLemmas.{BeginsFrom, begins_from, last_fits}, walk.Iter.over_from.Goals.After-bits-2}
use Rattle.bit_set.proofs.walk.Iter.over_from.Goals as goal

-- the walk as it is made
begun : (g : _) (c : After-bits-2 g) → BeginsFrom g.B.BitBlock.width g.B.BitBlock.number g.B.BitBlock.is_block c.args.bits.now.values c.args.from
    (record { block = c.block_from-first.result.1; index = c.block_from-first.result.0 * c.bits.result }) c.nonzero_past.result
    (record { block = c.zero.result; index = c.saturating_sub.result * c.bits-2.result })
begun g c =
    let w = g.B.BitBlock.width in
    let number = g.B.BitBlock.number in
    let from = c.args.from in
    let k = c.block_from-first.result.0 in
    let t = c.nonzero_past.result in
    let made = c.nonzero_past.ensures in
    let same = made.blocks ∙ sym c.storage-blocks.ensures.numbers in
    let count = sym (length-map t.blocks number) ∙ ap length same ∙ length-map c.storage-blocks.result.now number in
    let last = c.saturating_sub.ensures ∙ ap (λ n. n - 1) (sym count) in
    let at : k ≡ min (from / w) (length t.blocks - 1) = c.block_from-first.ensures.at ∙ ap (λ n. min (from / w) (n - 1)) (sym count) in
    let first : min k (length t.blocks - 1) ≡ k = omega (arith, at) in
    rw (c.bits.ensures, c.bits-2.ensures, last)
    (begins_from w number g.B.BitBlock.is_block c.args.bits.now.values from k c.block_from-first.result.1 c.zero.result t g.met.B.BitBlock.width_law.positive
    (λ x is. (g.met.B.BitBlock.number_law x is).0)
    (record { numbers = made.blocks; each = made.each; start = subst (λ i. StartsPast w number i t) first made.start; fits = omega (arith, made.fits.holds_values, made.fits.fits) })
    c.block_from-first.ensures.of_block c.zero.ensures.of_block c.zero.ensures.of_number
    (record { at = at; digit = λ j to. c.block_from-first.ensures.digits j to ∙ ap (λ m. leb (from - k * w) j && is_one m j) (ap (λ ms. get_or ms k 0) (sym same)) }))

pub invariant_of-result : goal.invariant_of-result
invariant_of-result g c = (begun g c).walk

pub returns : goal.returns
returns g c = (begun g c).start

pub overflow_mul-result-2 : goal.overflow_mul-result-2
overflow_mul-result-2 g c =
    let made = c.storage-blocks.ensures in
    let fits = last_fits g.B.BitBlock.width g.B.BitBlock.number c.storage-blocks.result.now c.args.bits.now.values g.met.B.BitBlock.width_law.positive made.numbers
    (omega (arith, made.fits.holds_values, made.fits.fits)) in
    record { fits = rw (c.bits-2.ensures, c.saturating_sub.ensures) fits }
