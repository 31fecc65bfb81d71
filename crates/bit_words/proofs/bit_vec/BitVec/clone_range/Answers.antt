use Rattle.std.proofs.Common.{◌≡◌, ◌≤◌, ◌++◌, false, length, map, replicate, sym, ap, ◌∙◌, arith}
use Rattle.std.proofs.lemmas.Bool.Decides.{nat_tests}
use Rattle.bit_blocks.specs.{Bits.{blocks_for, capacity_of}, Ranges.values_in_range}
use Rattle.bit_blocks.proofs.{BitsLemmas.{blocks_for-above, blocks_for-le}, TailLemmas.tail_unused, VectorLemmas.{length_from_view, numbers_below}}
use Rattle.bit_words.specs.Summary.{stored_for}
use Rattle.bit_words.proofs.{CapacityLemmas.shared_whole, MovedLemmas.{blocks_taken, part_packed, value_copied, values_of-part}, StartLemmas.false_before_none}
use Rattle.bit_words.proofs.bit_vec.BitVec.clone_range.Goals as goal

-- as many blocks as the range ends with
pub slice_bounds-copy_bits_from-end : goal.slice_bounds-copy_bits_from-end
slice_bounds-copy_bits_from-end g c =
    let within : c.args.range.end ≤ c.self.inside.len = rw (length_from_view _ _ _ _ _ c.self.view_is) at c.requires.within in
    rw c.deref.ensures.value
    (c.block_count-count.ensures ∙ sym (blocks_taken g.B.BitBlock.width c.args.range.end c.self.inside.len _
    c.self.inside.blocks.items g.met.B.BitBlock.width_law.positive within c.self.invariant.packed.count
    c.block_count-count.ensures))

pub copy_bits_from-requires-clause-within : goal.copy_bits_from-requires-clause-within
copy_bits_from-requires-clause-within g c =
    let start = c.requires.some in
    let fewer = blocks_for-le g.B.BitBlock.width c.args.range.start c.args.range.end g.met.B.BitBlock.width_law.positive (omega (arith, start)) in
    let long = slice_bounds-copy_bits_from-end g c in
    omega (arith, fewer, long, c.block_count-count.ensures)

pub clear_tail-requires-clause-count : goal.clear_tail-requires-clause-count
clear_tail-requires-clause-count g c =
    let within : c.args.range.end ≤ c.self.inside.len = rw (length_from_view _ _ _ _ _ c.self.view_is) at c.requires.within in
    (rw c.deref.ensures.value at c.in_ok-blocks.ensures.len)
    ∙ blocks_taken g.B.BitBlock.width c.args.range.end c.self.inside.len _ c.self.inside.blocks.items
    g.met.B.BitBlock.width_law.positive within c.self.invariant.packed.count c.block_count-count.ensures

pub summary_of-requires-clause-zeros : goal.summary_of-requires-clause-zeros
summary_of-requires-clause-zeros g c = λ q before.
    let w = g.B.BitBlock.width in
    let number = g.B.BitBlock.number in
    let zs = c.clear_tail.new.blocks.items in
    rw c.deref-2.ensures.value
    (tail_unused w c.args.range.start q (map number zs) (map number zs) (numbers_below w number g.B.BitBlock.is_block zs (λ x is. (g.met.B.BitBlock.number_law x is).0) c.clear_tail.ensures.in_place.each q)
    (λ i. grind (arith, nat_tests, c.clear_tail.ensures.values i, c.in_ok-blocks.ensures.values i)) (omega (arith, before, c.block_index.ensures)))

pub summary_of-requires-clause-within : goal.summary_of-requires-clause-within
summary_of-requires-clause-within g c =
    let w = g.B.BitBlock.width in
    let within : c.args.range.end ≤ c.self.inside.len = rw (length_from_view _ _ _ _ _ c.self.view_is) at c.requires.within in
    let taken = blocks_taken w c.args.range.end c.self.inside.len c.block_count-count.result c.self.inside.blocks.items
    g.met.B.BitBlock.width_law.positive within c.self.invariant.packed.count c.block_count-count.ensures in
    let long = (rw c.deref.ensures.value at c.in_ok-blocks.ensures.len) ∙ taken in
    let start = blocks_for-above w c.args.range.end c.args.range.start g.met.B.BitBlock.width_law.positive c.requires.some in
    omega (arith, start, long, c.clear_tail.ensures.in_place.len, c.block_index.ensures, c.deref-2.ensures.len)

pub invariant_of-result : goal.invariant_of-result
invariant_of-result g c =
    let w = g.B.BitBlock.width in
    let within : c.args.range.end ≤ c.self.inside.len = rw (length_from_view _ _ _ _ _ c.self.view_is) at c.requires.within in
    let taken = blocks_taken w c.args.range.end c.self.inside.len c.block_count-count.result c.self.inside.blocks.items
    g.met.B.BitBlock.width_law.positive within c.self.invariant.packed.count c.block_count-count.ensures in
    let long = (rw c.deref.ensures.value at c.in_ok-blocks.ensures.len) ∙ taken in
    record {
      packed = part_packed w c.args.range.start c.args.range.end g.B.BitBlock.number g.B.BitBlock.is_block c.in_ok-blocks.blocks.items c.clear_tail.new.blocks.items
          (omega (arith, within, c.self.invariant.packed.fits)) c.clear_tail.ensures.in_place.each (omega (arith, c.clear_tail.ensures.in_place.len, long)) c.clear_tail.ensures.values;
      summary = rw c.deref-2.ensures.value at c.in_ok-summary.ensures.summary;
      start = λ _. false_before_none _ _;
    }

pub returns-clause-values : goal.returns-clause-values
returns-clause-values g c =
    let within : c.args.range.end ≤ c.self.inside.len = rw (length_from_view _ _ _ _ _ c.self.view_is) at c.requires.within in
    let w = g.B.BitBlock.width in
    let number = g.B.BitBlock.number in
    let start = c.requires.some in
    values_of-part w (map number c.self.inside.blocks.items) (map number c.clear_tail.new.blocks.items) c.self.inside.len c.args.range.start c.args.range.end (omega (arith, start)) within
    (value_copied number w c.args.range.start c.args.range.end c.block_count-count.result c.self.inside.blocks.items
    c.in_ok-blocks.blocks.items c.clear_tail.new.blocks.items g.met.B.BitBlock.width_law.positive c.block_count-count.ensures
    (rw c.deref.ensures.value at c.in_ok-blocks.ensures.values) c.clear_tail.ensures.values)
    ∙ ap (λ v. replicate c.args.range.start false ++ values_in_range c.args.range.start c.args.range.end v.values) c.self.view_is

pub returns-clause-capacity : goal.returns-clause-capacity
returns-clause-capacity g c =
    let pos = g.met.B.BitBlock.width_law.positive in
    let within : c.args.range.end ≤ c.self.inside.len = rw (length_from_view _ _ _ _ _ c.self.view_is) at c.requires.within in
    let w = g.B.BitBlock.width in
    let taken = blocks_taken w c.args.range.end c.self.inside.len c.block_count-count.result c.self.inside.blocks.items pos within c.self.invariant.packed.count c.block_count-count.ensures in
    let long = (rw c.deref.ensures.value at c.in_ok-blocks.ensures.len) ∙ taken in
    let room = (rw c.deref.ensures.value at c.in_ok-blocks.ensures.capacity) ∙ taken in
    let count : length c.clear_tail.new.blocks.items ≡ blocks_for w c.args.range.end = omega (arith, c.clear_tail.ensures.in_place.len, long) in
    ap (capacity_of w) (shared_whole w _ _ _ pos (c.clear_tail.ensures.in_place.capacity ∙ room)
    ((rw c.deref-2.ensures.value at c.in_ok-summary.ensures.capacity) ∙ ap (stored_for w) count))
