use Rattle.std.proofs.Common.{◌≡◌, ℕ, ◌<◌, ◌≤◌, ◌-◌, ◌*◌, ◌/◌, true, length, map, vec_len, sym, ap, ◌∙◌, arith, div-lt_iff_lt-mul}
use Rattle.bit_blocks.specs.{Bits.blocks_for, Merges.merge_of_values}
use Rattle.bit_words.{specs.Summary.short_count, proofs.summary.spans.fill_span.{Given.Over, Goals.After-merge_span}}
use Rattle.bit_blocks.proofs.{ChangeLemmas.div_le, VectorLemmas.numbers_below}
use Rattle.bit_words.proofs.{SummaryLemmas.{keeps_all, keeps_none, stored_each, stored_enough, summary_of_digits}, SummarySpanLemmas.{ends_written, filled_use, in_chunks}}
use Rattle.bit_words.proofs.summary.spans.fill_span.Goals as goal

pub returns-then-is_short-clause-span : goal.returns-then-is_short-clause-span
returns-then-is_short-clause-span g c = c.merge_long_span.ensures.span

pub returns-then-is_short-clause-in_place : goal.returns-then-is_short-clause-in_place
returns-then-is_short-clause-in_place g c = c.merge_long_span.ensures.in_place

pub returns-then-is_short-clause-summary : goal.returns-then-is_short-clause-summary
returns-then-is_short-clause-summary g c =
    let few = c.is_short.ensures.short c.if-is_short.true in
    keeps_none _ _ _ _ _ (omega (arith, few)) (c.requires.summary.short (omega (arith, few, c.merge_long_span.ensures.in_place.len)))

-- a block of the span is one of the list
in_list : (w i end len count : ℕ) → 0 < w → i < end → end ≤ len * w → len ≡ count → i / w < count
in_list w i end len count pos below within same = rw (sym same) ((div-lt_iff_lt-mul pos).1 (omega arith))

pub merge_span-requires-clause-some : goal.merge_span-requires-clause-some
merge_span-requires-clause-some g c =
    omega (arith, div_le g.B.BitBlock.width c.args.start (c.args.end - 1) g.met.B.BitBlock.width_law.positive (omega arith), c.block_index-first.ensures, c.block_index-last.ensures)

pub merge_span-requires-clause-within : goal.merge_span-requires-clause-within
merge_span-requires-clause-within g c =
    let w = g.B.BitBlock.width in
    let pos = g.met.B.BitBlock.width_law.positive in
    let long = c.is_short.ensures.long c.if-is_short.false in
    let enough : length c.args.blocks.now.items ≤ vec_len c.args.summary.now * w = rw c.args.summary.now.ok.0
    (stored_enough w _ _ _ _ pos c.requires.summary (omega (arith, long, c.merge_long_span.ensures.in_place.len))) in
    omega (arith, enough, in_list w (c.args.end - 1) c.args.end (vec_len c.args.blocks.now) _ pos (omega arith) c.requires.within c.args.blocks.now.ok.0, c.block_index-last.ensures)

pub merge_span-requires-clause-each : goal.merge_span-requires-clause-each
merge_span-requires-clause-each g c = stored_each _ _ _ _ _ c.requires.summary

-- where the list is not short a summary is stored, and each block of the span has its bit there
many : (g : Over) (c : After-merge_span g) → short_count g.B.BitBlock.width < length c.args.blocks.now.items
many g c = let long = c.is_short.ensures.long c.if-is_short.false in omega (arith, long, c.merge_long_span.ensures.in_place.len)

in_summary : (g : Over) (c : After-merge_span g) → (i : ℕ) → i < c.args.end → i / g.B.BitBlock.width / g.B.BitBlock.width < length c.args.summary.now.items
in_summary g c i below =
    let w = g.B.BitBlock.width in
    let pos = g.met.B.BitBlock.width_law.positive in
    let within : i < length c.args.blocks.now.items * w = rw (← c.args.blocks.now.ok.0) (omega arith) in
    in_chunks w (i / w) _ _ c.args.blocks.now.items _ pos (c.requires.summary.long (many g c)) ((div-lt_iff_lt-mul pos).1 within)

pub update_summary_at-requires : goal.update_summary_at-requires
update_summary_at-requires g c = record {
  in_bounds =
      rw (c.deref-2.ensures.value, c.block_index-first.ensures)
      (in_list g.B.BitBlock.width c.args.start c.args.end
      (vec_len c.args.blocks.now) _ g.met.B.BitBlock.width_law.positive c.requires.some
      c.requires.within (omega (arith, c.merge_long_span.ensures.in_place.len)));
  in_summary =
      rw c.block_index-first.ensures
      (omega (arith, c.merge_span.ensures.in_place.len, in_summary g (goal.at.update_summary_at-requires g c).After-merge_span c.args.start c.requires.some));
  each = c.merge_span.ensures.in_place.each;
  blocks = rw c.deref-2.ensures.value c.merge_long_span.ensures.in_place.each;
}

pub update_summary_at-requires-2 : goal.update_summary_at-requires-2
update_summary_at-requires-2 g c = record {
  in_bounds =
      rw (c.deref-3.ensures.value, c.block_index-last.ensures)
      (in_list g.B.BitBlock.width (c.args.end - 1) c.args.end (vec_len c.args.blocks.now) _ g.met.B.BitBlock.width_law.positive
      (omega arith) c.requires.within (omega (arith, c.merge_long_span.ensures.in_place.len)));
  in_summary =
      rw c.block_index-last.ensures
      (omega (arith, c.merge_span.ensures.in_place.len, c.update_summary_at.ensures.in_place.len, in_summary g (goal.at.update_summary_at-requires-2 g c).After-merge_span (c.args.end - 1) (omega arith)));
  each = c.update_summary_at.ensures.in_place.each;
  blocks = rw c.deref-3.ensures.value c.merge_long_span.ensures.in_place.each;
}

pub returns : goal.returns
returns g c = record {
  span = c.merge_long_span.ensures.span;
  in_place = c.merge_long_span.ensures.in_place;
  summary =
      let m = g.O.Operation.merge in
      let w = g.B.BitBlock.width in
      let f = g.B.BitBlock.number in
      let P = g.B.BitBlock.is_block in
      let long = many g (goal.at.returns g c).After-merge_span in
      let said = c.requires.summary.long long in
      let olds = c.args.blocks.now.items in
      let news = c.merge_long_span.new.blocks.items in
      let size : length olds ≡ length news = omega (arith, c.merge_long_span.ensures.in_place.len) in
      keeps_all w f P news _ (omega (arith, long, c.merge_long_span.ensures.in_place.len)) (
      summary_of_digits w f P news _ c.update_summary_at-2.ensures.in_place.each
      (omega (arith, said.packed.count ∙ ap (blocks_for w) size, c.merge_span.ensures.in_place.len, c.update_summary_at.ensures.in_place.len, c.update_summary_at-2.ensures.in_place.len))
      (omega (arith, said.packed.fits, c.merge_long_span.ensures.in_place.len))
      (ends_written w c.block_index-first.result c.block_index-last.result (map f news) _ _ _
      (filled_use m w c.args.start c.args.end _ _ (map f olds) (map f news) (map f c.args.summary.now.items) _ (merge_of_values m true true) g.met.B.BitBlock.width_law.positive
      (numbers_below w f P olds (λ x is. (g.met.B.BitBlock.number_law x is).0) c.requires.each)
      (numbers_below w f P news (λ x is. (g.met.B.BitBlock.number_law x is).0) c.merge_long_span.ensures.in_place.each)
      c.block_index-first.ensures c.block_index-last.ensures c.requires.fills c.merge_long_span.ensures.span said.digit c.merge_span.ensures.span)
      (rw c.deref-2.ensures.value at c.update_summary_at.ensures.value)
      (rw c.deref-3.ensures.value at c.update_summary_at-2.ensures.value)));
  capacity =
      c.update_summary_at-2.ensures.in_place.capacity ∙ c.update_summary_at.ensures.in_place.capacity ∙ c.merge_span.ensures.in_place.capacity;
}
