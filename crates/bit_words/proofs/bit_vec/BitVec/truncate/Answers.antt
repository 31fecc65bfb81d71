use Rattle.std.proofs.Common.{◌≡◌, ◌∙◌, sym, ap, length, map, take, take_all, arith}
use Rattle.bit_blocks.proofs.{StorageLemmas.values_of-take, BitsLemmas.blocks_for-le, VectorLemmas.{length_from_view, numbers_below}}
use Rattle.bit_words.proofs.{SameCapacity.same_capacity, SummaryLemmas.kept_use}
use Rattle.bit_words.proofs.StartLemmas.{cut_less, false_before_less}
use Rattle.bit_words.proofs.bit_vec.BitVec.truncate.Goals as goal

pub returns-then-n-self-clause-values : goal.returns-then-n-self-clause-values
returns-then-n-self-clause-values g c =
    sym (take_all c.args.n c.args.self.now.values (rw (length_from_view _ _ _ _ _ c.self.view_is) (omega arith)))

pub returns-clause-values : goal.returns-clause-values
returns-clause-values g c =
    values_of-take _ _ _ _ _ (omega arith) c.truncate_bits.ensures.kept ∙ ap (λ v. take c.args.n v.values) c.self.view_is

pub truncate_bits-requires : goal.truncate_bits-requires
truncate_bits-requires g c = record { packed = c.self.invariant.packed; shorter = omega arith }

pub invariant_of-self : goal.invariant_of-self
invariant_of-self g c = record {
  packed = c.truncate_bits.ensures.packed;
  summary = rw c.deref.ensures.value at c.cut_summary.ensures.summary;
  start = λ many.
      let le = blocks_for-le g.B.BitBlock.width c.args.n c.self.inside.len g.met.B.BitBlock.width_law.positive (omega arith) in
      false_before_less _ _ _ _ (cut_less _ _ _ _ c.truncate_bits.ensures.kept c.truncate_bits.ensures.packed.tail)
      (c.self.invariant.start (omega (arith, many, le, c.truncate_bits.ensures.packed.count, c.self.invariant.packed.count)));
}

pub returns-clause-capacity : goal.returns-clause-capacity
returns-clause-capacity g c = same_capacity _ _ _ _ _ _ c.truncate_bits.ensures.capacity c.cut_summary.ensures.capacity (ap (λ v. v.capacity) c.self.view_is)

pub cut_summary-requires : goal.cut_summary-requires
cut_summary-requires g c = record {
  packed = λ long.
      let count : length c.self.inside.blocks.items ≡ c.len-count.result = omega arith in
      rw (← count) (c.self.invariant.summary.long (omega (arith, long))).packed;
  blocks = rw c.deref.ensures.value c.truncate_bits.ensures.packed.each;
  shorter =
      let le = blocks_for-le g.B.BitBlock.width c.args.n c.self.inside.len g.met.B.BitBlock.width_law.positive (omega arith) in
      rw c.deref.ensures.value (omega (arith, le, c.truncate_bits.ensures.packed.count));
  before = λ long k.
      let w = g.B.BitBlock.width in
      let f = g.B.BitBlock.number in
      rw c.deref.ensures.value (λ before.
      (c.self.invariant.summary.long (omega (arith, long))).digit k
      ∙ kept_use w c.args.n k (map f c.self.inside.blocks.items) (map f c.truncate_bits.new.blocks.items) g.met.B.BitBlock.width_law.positive
      (numbers_below w f _ _ (λ x is. (g.met.B.BitBlock.number_law x is).0) c.self.invariant.packed.each k)
      (numbers_below w f _ _ (λ x is. (g.met.B.BitBlock.number_law x is).0) c.truncate_bits.ensures.packed.each k) c.truncate_bits.ensures.kept
      (omega (arith, before, c.truncate_bits.ensures.packed.count)));
}
