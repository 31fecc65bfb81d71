use Rattle.std.proofs.Common.{◌≡◌, ◌<◌, ◌≤◌, ◌-◌, ◌*◌, length, map, vec_len, arith, ap, ◌∙◌, div-lt_iff_lt-mul}
use Rattle.bit_blocks.{specs.Bits.blocks_for, proofs.{ChangeLemmas.div_le, VectorLemmas.numbers_below}}
use Rattle.bit_words.specs.Summary.{short_count}
use Rattle.bit_words.proofs.{SummaryLemmas.{keeps_all, keeps_none, stored_each, stored_enough, summary_of_digits}, SummarySpanLemmas.anew_use}
use Rattle.bit_words.proofs.summary.spans.negate_span.{Given.Over, Goals.After-block_index-last}
use Rattle.bit_words.proofs.summary.spans.negate_span.Goals as goal

many : (g : Over) (c : After-block_index-last g) → short_count g.B.BitBlock.width < length c.args.blocks.now.items
many g c = let long = c.is_short.ensures.long c.if-is_short.false in omega (arith, long, c.merge_span.ensures.in_place.len)

-- the last block of the span is one of the list
in_list : (g : Over) (c : After-block_index-last g) → c.block_index-last.result < length c.args.blocks.now.items
in_list g c =
    let within : c.args.end - 1 < length c.args.blocks.now.items * g.B.BitBlock.width = rw (← c.args.blocks.now.ok.0) (omega arith) in
    rw c.block_index-last.ensures ((div-lt_iff_lt-mul g.met.B.BitBlock.width_law.positive).1 within)

pub summarize_span-requires-clause-forward : goal.summarize_span-requires-clause-forward
summarize_span-requires-clause-forward g c =
    omega (arith, div_le g.B.BitBlock.width c.args.start (c.args.end - 1) g.met.B.BitBlock.width_law.positive (omega arith), c.block_index-first.ensures, c.block_index-last.ensures)

pub summarize_span-requires-clause-in_blocks : goal.summarize_span-requires-clause-in_blocks
summarize_span-requires-clause-in_blocks g c =
    let len : length c.deref.result.now ≡ length c.args.blocks.now.items = omega (arith, ap length c.deref.ensures.value, c.merge_span.ensures.in_place.len) in
    rw len (omega (arith, in_list g (goal.at.summarize_span-requires-clause-in_blocks g c).After-block_index-last))

pub summarize_span-requires-clause-in_summary : goal.summarize_span-requires-clause-in_summary
summarize_span-requires-clause-in_summary g c =
    let at = (goal.at.summarize_span-requires-clause-in_summary g c).After-block_index-last in
    let enough : length c.args.blocks.now.items ≤ vec_len c.args.summary.now * g.B.BitBlock.width = rw c.args.summary.now.ok.0
    (stored_enough g.B.BitBlock.width _ _ _ _ g.met.B.BitBlock.width_law.positive c.requires.summary (many g at)) in
    omega (arith, enough, in_list g at)

pub returns-then-is_short-clause-span : goal.returns-then-is_short-clause-span
returns-then-is_short-clause-span g c = c.merge_span.ensures.span

pub returns-then-is_short-clause-in_place : goal.returns-then-is_short-clause-in_place
returns-then-is_short-clause-in_place g c = c.merge_span.ensures.in_place

pub returns-then-is_short-clause-summary : goal.returns-then-is_short-clause-summary
returns-then-is_short-clause-summary g c =
    let few = c.is_short.ensures.short c.if-is_short.true in
    keeps_none _ _ _ _ _ (omega (arith, few)) (c.requires.summary.short (omega (arith, few, c.merge_span.ensures.in_place.len)))

pub summarize_span-requires-clause-each : goal.summarize_span-requires-clause-each
summarize_span-requires-clause-each g c = stored_each _ _ _ _ _ c.requires.summary

pub summarize_span-requires-clause-blocks : goal.summarize_span-requires-clause-blocks
summarize_span-requires-clause-blocks g c = rw c.deref.ensures.value c.merge_span.ensures.in_place.each

pub returns : goal.returns
returns g c = record {
  span = c.merge_span.ensures.span;
  in_place = c.merge_span.ensures.in_place;
  summary =
      let w = g.B.BitBlock.width in
      let f = g.B.BitBlock.number in
      let P = g.B.BitBlock.is_block in
      let long = many g (goal.at.returns g c).After-block_index-last in
      let said = c.requires.summary.long long in
      let olds = c.args.blocks.now.items in
      let news = c.merge_span.new.blocks.items in
      let size : length olds ≡ length news = omega (arith, c.merge_span.ensures.in_place.len) in
      let made = c.summarize_span.ensures in
      keeps_all w f P news _ (omega (arith, long, c.merge_span.ensures.in_place.len)) (
      summary_of_digits w f P news _ made.in_place.each
      (omega (arith, said.packed.count ∙ ap (blocks_for w) size, made.in_place.len))
      (omega (arith, said.packed.fits, c.merge_span.ensures.in_place.len))
      (anew_use _ w c.args.start c.args.end _ _ (map f olds) (map f news) (map f c.args.summary.now.items) _ g.met.B.BitBlock.width_law.positive
      (numbers_below w f P olds (λ x is. (g.met.B.BitBlock.number_law x is).0) c.requires.each)
      (numbers_below w f P news (λ x is. (g.met.B.BitBlock.number_law x is).0) c.merge_span.ensures.in_place.each)
      c.block_index-first.ensures c.block_index-last.ensures
      c.merge_span.ensures.span said.digit (rw c.deref.ensures.value at made.made) made.before made.after));
  capacity = c.summarize_span.ensures.in_place.capacity;
}
