use Rattle.std.proofs.{Common.{◌≡◌, not, get_or, ap, sym, ◌∙◌, arith}, lemmas.Bool.{not-false, true≢false}}
use Rattle.bit_blocks.specs.Bits.{blocks_of}
use Rattle.bit_set.proofs.order.BitSetOrd.cmp.Goals as goal

pub order_by-requires : goal.order_by-requires
order_by-requires g c =
    let w = g.B.BitBlock.width in
    let same = g.met.B.BitBlock.eq_law c.block_or_zero.result c.block_or_zero-2.result c.block_or_zero.ensures.of_block c.block_or_zero-2.ensures.of_block in
    let left = c.block_or_zero.ensures.of_number ∙ ap (λ ms. get_or ms 0 0) c.storage-left.ensures.numbers ∙ ap (λ bits. get_or (blocks_of w bits.values) 0 0) c.get_ref.ensures in
    let right = c.block_or_zero-2.ensures.of_number ∙ ap (λ ms. get_or ms 0 0) c.storage-right.ensures.numbers ∙ ap (λ bits. get_or (blocks_of w bits.values) 0 0) c.get_ref-2.ensures in
    record {
      below = λ j none. absurd (omega (arith, none));
      here = λ e. true≢false (sym c.if-ne.true ∙ c.ne.ensures ∙ ap not (same.1 (left ∙ e ∙ sym right)));
    }

pub mismatch_between-requires-clause-before : goal.mismatch_between-requires-clause-before
mismatch_between-requires-clause-before g c k low =
    let same = g.met.B.BitBlock.eq_law c.block_or_zero.result c.block_or_zero-2.result c.block_or_zero.ensures.of_block c.block_or_zero-2.ensures.of_block in
    let first : k ≡ 0 = omega (arith, low) in
    rw first (sym c.block_or_zero.ensures.of_number ∙ same.0 (not-false _ (sym c.ne.ensures ∙ c.if-ne.false)) ∙ c.block_or_zero-2.ensures.of_number)

pub block_or_zero-requires : goal.block_or_zero-requires
block_or_zero-requires g c = c.storage-left.ensures.each

pub block_or_zero-requires-2 : goal.block_or_zero-requires-2
block_or_zero-requires-2 g c = c.storage-right.ensures.each

pub returns-then-ne : goal.returns-then-ne
returns-then-ne g c = c.order_by.ensures

pub mismatch_between-requires-clause-left : goal.mismatch_between-requires-clause-left
mismatch_between-requires-clause-left g c = c.storage-left.ensures.each

pub mismatch_between-requires-clause-right : goal.mismatch_between-requires-clause-right
mismatch_between-requires-clause-right g c = c.storage-right.ensures.each

pub returns-then-left-lt-GROUP : goal.returns-then-left-lt-GROUP
returns-then-left-lt-GROUP g c = c.order_by-then-left-lt-GROUP.ensures

pub returns : goal.returns
returns g c = c.order_by_groups.ensures
