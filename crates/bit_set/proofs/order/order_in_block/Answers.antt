use Rattle.std.proofs.Common.{sym, ◌+◌, ◌*◌, ◌<◌, ◌^◌, length, get_or, ap, ◌∙◌, arith}
use Rattle.bit_blocks.specs.Bits.{blocks_of}
use Rattle.set_algebra.specs.{Mismatches.IsFirstMismatch, Sets.elements}
use Rattle.set_algebra.proofs.OrderLemmas.{by_holder, by_other_holder}
use Rattle.set_algebra.proofs.MismatchLemmas.{first_mismatch_is, first_within}
use Rattle.bit_set.proofs.order.order_in_block.Goals.{After-bits}
use Rattle.bit_set.proofs.order.order_in_block.Goals as goal

is_first : (g : _) (c : After-bits g) → IsFirstMismatch (elements c.args.a.now.values) (elements c.args.b.now.values) (c.args.at * c.bits.result + c.lowest_mismatch-index.result)
is_first g c =
    let w = g.B.BitBlock.width in
    let at = c.args.at in
    let left = c.block_or_zero.ensures.of_number ∙ ap (λ ms. get_or ms at 0) (c.storage-left.ensures.numbers ∙ ap (λ s. blocks_of w s.values) c.get_ref.ensures) in
    let right = c.block_or_zero-2.ensures.of_number ∙ ap (λ ms. get_or ms at 0) (c.storage-right.ensures.numbers ∙ ap (λ s. blocks_of w s.values) c.get_ref-2.ensures) in
    rw c.bits.ensures (first_mismatch_is w at _ c.args.a.now.values c.args.b.now.values g.met.B.BitBlock.width_law.positive c.requires (rw (left, right) at c.lowest_mismatch-index.ensures))

fits : (g : _) (c : After-bits g) → c.args.at * c.bits.result + c.lowest_mismatch-index.result < 2 ^ 64
fits g c =
    let left : length c.args.a.now.values < 2 ^ 64 = omega (arith, ap (λ s. length s.values) c.get_ref.ensures, c.storage-left.ensures.fits.holds_values, c.storage-left.ensures.fits.fits) in
    let right : length c.args.b.now.values < 2 ^ 64 = omega (arith, ap (λ s. length s.values) c.get_ref-2.ensures, c.storage-right.ensures.fits.holds_values, c.storage-right.ensures.fits.fits) in
    first_within c.args.a.now.values c.args.b.now.values _ (is_first g c) left right

pub overflow_add-number : goal.overflow_add-number
overflow_add-number g c = omega (arith, fits g c)

pub overflow_mul-number : goal.overflow_mul-number
overflow_mul-number g c = omega (arith, fits g c)

pub returns-then-contains : goal.returns-then-contains
returns-then-contains g c =
    by_holder c.args.a.now.values c.args.b.now.values _ _ (is_first g (goal.at.returns-then-contains g c).After-bits) (sym c.contains.ensures.value ∙ c.if-contains.true) c.order_of_holder.ensures

pub returns-else-contains : goal.returns-else-contains
returns-else-contains g c =
    c.reverse.ensures
    ∙ by_other_holder c.args.a.now.values c.args.b.now.values _ _ (is_first g (goal.at.returns-else-contains g c).After-bits)
    (sym c.contains.ensures.value ∙ c.if-contains.false) c.order_of_holder-else-contains.ensures
