use Rattle.std.proofs.{Common.{vec_len, ◌∙◌, sym, arith}, lemmas.List.length-map}
use Rattle.bit_blocks.proofs.{BitsLemmas.blocks_for-le, PackedLemmas.{ones_kept, ones_added, zeros_kept, zeros_added}, TestLemmas.{above_false, below_true}}
use Rattle.bit_blocks.proofs.packed.resizing.append_bits.Goals as goal

pub push_ones-requires-clause-more : goal.push_ones-requires-clause-more
push_ones-requires-clause-more g c =
    let le = blocks_for-le g.B.BitBlock.width c.args.old c.args.len g.met.B.BitBlock.width_law.positive c.requires.longer in omega arith

pub push_copies-requires-clause-more : goal.push_copies-requires-clause-more
push_copies-requires-clause-more g c =
    let le = blocks_for-le g.B.BitBlock.width c.args.old c.args.len g.met.B.BitBlock.width_law.positive c.requires.longer in
    omega (arith, le, c.requires.packed.count, c.block_count.ensures)

pub returns-then-old-len-clause-packed : goal.returns-then-old-len-clause-packed
returns-then-old-len-clause-packed g c = rw (← c.if-old-len.true) c.requires.packed

pub returns-then-bit : goal.returns-then-bit
returns-then-bit g c =
    let size = c.set_tail.ensures.in_place.len in
    let added = ones_added _ _ _ _ _ _ _ c.requires.packed.tail c.set_tail.ensures.values (λ i within. c.push_ones.ensures.kept i (omega (arith, size, within)))
    (λ i past. c.push_ones.ensures.added i (omega (arith, size, past))) in
    record {
      kept = ones_kept _ _ _ _ c.args.old _ (vec_len c.args.blocks.now) g.met.B.BitBlock.width_law.positive
          (omega arith) c.set_tail.ensures.values (λ i within. c.push_ones.ensures.kept i (omega (arith, size, within)));
      added = λ i after below. added i after ∙ below_true c.args.len i below ∙ sym c.if-bit.true;
      packed = record {
        each = c.push_ones.ensures.has.each;
        count = omega arith;
        tail = record { zero_tail = λ i past. added i (omega (arith, c.requires.longer, past)) ∙ above_false c.args.len i past };
        fits = c.ranges.len.fits;
      };
      capacity = c.push_ones.ensures.has.capacity ∙ c.set_tail.ensures.in_place.capacity;
    }

pub returns-else-bit : goal.returns-else-bit
returns-else-bit g c =
    let added = zeros_added _ _ _ _ _ _ c.requires.packed.tail c.zero.ensures.of_number c.push_copies.ensures.numbers in
    record {
      kept = zeros_kept _ _ _ _ _ _ g.met.B.BitBlock.width_law.positive (rw length-map c.requires.packed.count) c.push_copies.ensures.numbers;
      added = λ i after below. added i after ∙ sym c.if-bit.false;
      packed = record {
        each = c.push_copies.ensures.each;
        count = omega arith;
        tail = record { zero_tail = λ i past. added i (omega (arith, c.requires.longer, past)) };
        fits = c.ranges.len.fits;
      };
      capacity = c.push_copies.ensures.capacity;
    }
