use Rattle.std.proofs.Common.{◌≡◌, ◌<◌, ◌^◌, ◌∙◌, ◌++◌, false, drop, length, map, replicate, ap, arith}
use Rattle.bit_blocks.proofs.{BitsLemmas.{blocks_for-above, blocks_for-le}, TailLemmas.{tail_kept, tail_packed, tail_unused, values_of-tail}}
use Rattle.bit_words.{specs.Summary.stored_for, proofs.{CapacityLemmas.capacity_of_copy, StartLemmas.false_before_none}}
use Rattle.bit_blocks.proofs.VectorLemmas.{length_from_view, numbers_below}
use Rattle.bit_words.proofs.bit_vec.BitVec.clone_tail.Goals as goal

pub copy_bits_from-requires-clause-within : goal.copy_bits_from-requires-clause-within
copy_bits_from-requires-clause-within g c =
    let at : c.args.at < c.self.inside.len = rw (length_from_view _ _ _ _ _ c.self.view_is) at c.requires in
    let le = blocks_for-le g.B.BitBlock.width c.args.at c.self.inside.len g.met.B.BitBlock.width_law.positive (omega arith) in
    rw c.deref.ensures.value (omega (arith, le, c.self.invariant.packed.count))

pub copy_summary_from-requires : goal.copy_summary_from-requires
copy_summary_from-requires g c =
    let w = g.B.BitBlock.width in
    let f = g.B.BitBlock.number in
    let pos = g.met.B.BitBlock.width_law.positive in
    let below = numbers_below w f g.B.BitBlock.is_block in
    let law : (x : _) → g.B.BitBlock.is_block x → f x < 2 ^ w = λ x is. (g.met.B.BitBlock.number_law x is).0 in
    let copied = c.in_ok-blocks.ensures in
    let kept = rw c.deref.ensures.value at copied.values in
    let at : c.args.at < c.self.inside.len = rw (length_from_view _ _ _ _ _ c.self.view_is) at c.requires in
    let len : length c.in_ok-blocks.blocks.items ≡ length c.self.inside.blocks.items = omega (arith, copied.len, c.deref.ensures.len) in
    rw (c.deref-2.ensures.value, c.deref-3.ensures.value) (record {
      packed = rw len (λ long. (c.self.invariant.summary.long long).packed);
      blocks = copied.each;
      within = omega (arith, len, blocks_for-above w c.self.inside.len c.args.at pos at, c.block_index.ensures, c.self.invariant.packed.count);
      before = λ q before.
          tail_unused w c.args.at q _ (map f c.in_ok-blocks.blocks.items) (below _ law copied.each q) copied.values (omega (arith, before, c.block_index.ensures));
      after = λ long q after.
          (c.self.invariant.summary.long (omega (arith, long, len))).digit q
          ∙ tail_kept w c.args.at q (map f c.self.inside.blocks.items) (map f c.in_ok-blocks.blocks.items) pos (below _ law c.self.invariant.packed.each q) (below _ law copied.each q) kept
          (omega (arith, after, c.block_index.ensures));
    })

pub invariant_of-result : goal.invariant_of-result
invariant_of-result g c = record {
  packed = tail_packed g.B.BitBlock.width _ c.args.at g.B.BitBlock.number _ c.self.inside.blocks.items _ c.self.invariant.packed c.in_ok-blocks.ensures.each
      (omega (arith, c.in_ok-blocks.ensures.len, c.deref.ensures.len)) (rw c.deref.ensures.value at c.in_ok-blocks.ensures.values);
  summary = rw c.deref-3.ensures.value at c.in_ok-summary.ensures.summary;
  start = λ _. false_before_none _ _;
}

pub returns-clause-values : goal.returns-clause-values
returns-clause-values g c =
    let at : c.args.at < c.self.inside.len = rw (length_from_view _ _ _ _ _ c.self.view_is) at c.requires in
    values_of-tail g.B.BitBlock.width (map g.B.BitBlock.number c.self.inside.blocks.items) _ c.self.inside.len c.args.at (omega arith) (rw c.deref.ensures.value at c.in_ok-blocks.ensures.values)
    ∙ ap (λ v. replicate c.args.at false ++ drop c.args.at v.values) c.self.view_is

pub returns-clause-capacity : goal.returns-clause-capacity
returns-clause-capacity g c =
    let len : length c.deref-3.result.now ≡ length c.self.inside.blocks.items = omega (arith, c.in_ok-blocks.ensures.len, c.deref-3.ensures.len, c.deref.ensures.len) in
    capacity_of_copy g.B.BitBlock.width _ _ (length c.self.inside.blocks.items) _ _ _ _ g.met.B.BitBlock.width_law.positive c.self.view_is c.self.invariant.packed.count
    (omega (arith, c.in_ok-blocks.ensures.capacity, c.deref.ensures.len))
    (c.in_ok-summary.ensures.capacity ∙ ap (stored_for g.B.BitBlock.width) len)
