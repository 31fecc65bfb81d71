use Rattle.std.proofs.Common.{◌≡◌, ℕ, ◌+◌, ◌-◌, ◌*◌, ◌/◌, ◌<◌, ◌≤◌, ◌∙◌, ap, get_or, length, map, max, min, vec_len, arith, refl, ⊎_elim, div-lt_iff_lt-mul, lt_of_mul-lt-mul_right}
use Rattle.std.proofs.lemmas.{Bool.cases_eq, List.length-map}
use Rattle.bit_blocks.{specs.{Bits.blocks_for, Digits.is_one}, proofs.{BitsLemmas.{blocks_for-above, whole_before}, ChangeLemmas.{div_le, written_other}}}
use Rattle.bit_words.proofs.SummarySpanLemmas.{bit_above, bit_below, made_bit}
use Rattle.bit_words.proofs.summary.summarize_span.{Given.Over, Goals.After-put_block}
use Rattle.bit_words.proofs.summary.summarize_span.Goals as goal

-- the blocks that block q of the summary is about begin before the end
reaches : (w bits end q last : ℕ) → 0 < w → bits ≡ w → last ≡ blocks_for w end → q < last → q * bits < end
reaches w bits end q last pos e is below = rw e (whole_before w end q pos (omega arith))

-- the first block is not past those that block q is about
starts_in : (w bits first q from : ℕ) → 0 < w → bits ≡ w → from ≡ first / w → from ≤ q → first < q * bits + bits
starts_in w bits first q from pos e is upto =
    let under : first / w < q + 1 = omega arith in
    rw e (omega (arith, (div-lt_iff_lt-mul pos).0 under))

-- and it is one of the summary
held : (w end q size : ℕ) → 0 < w → q < blocks_for w end → end ≤ size * w → q < size
held w end q size pos below within = lt_of_mul-lt-mul_right w (omega (arith, whole_before w end q pos below, within))

-- where the blocks begin that block q of the summary is about
begun : (g : Over) (c : After-put_block g) → c.loop-q.q * g.B.BitBlock.width < c.args.end
begun g c = whole_before g.B.BitBlock.width c.args.end c.loop-q.q g.met.B.BitBlock.width_law.positive (omega (arith, c.block_count-q-end.ensures))

-- block q of the summary is there
inside : (g : Over) (c : After-put_block g) → c.loop-q.q < length (map g.B.BitBlock.number c.loop-q.summary.items)
inside g c =
    rw length-map
    (omega (arith, held g.B.BitBlock.width c.args.end c.loop-q.q (vec_len c.args.summary.now) g.met.B.BitBlock.width_law.positive (omega (arith, c.block_count-q-end.ensures)) c.requires.in_summary, c.loop-q.invariant.in_place.len, c.loop-q.summary.ok.0))

-- what it was
own_is : (g : Over) (c : After-put_block g) → g.B.BitBlock.number c.block_at-own.result ≡ get_or (map g.B.BitBlock.number c.loop-q.summary.items) c.loop-q.q 0
own_is g c = rw c.deref.ensures.value at c.block_at-own.ensures.of_number

start_is : (g : Over) (c : After-put_block g) → c.max-start.result ≡ max c.args.first (c.loop-q.q * g.B.BitBlock.width)
start_is g c = c.max-start.ensures ∙ ap (λ b. max c.args.first (c.loop-q.q * b)) c.bits-width.ensures

pub loop-q-preserved : goal.loop-q-preserved
loop-q-preserved g c =
    let w = g.B.BitBlock.width in
    let pos = g.met.B.BitBlock.width_law.positive in
    let q = c.loop-q.q in
    let start = c.max-start.result in
    let index = start - q * c.bits-width.result in
    let ms = map g.B.BitBlock.number c.args.blocks.now in
    let ss = map g.B.BitBlock.number c.loop-q.summary.items in
    let put = c.put_block.ensures.numbers in
    let begins : c.args.first / w ≤ q = omega (arith, c.block_index-q.ensures) in
    let at : index ≡ start - q * w = ap (λ b. start - q * b) c.bits-width.ensures in
    let many : c.min-count.result ≡ min (c.args.end - start) (w - index) = c.min-count.ensures ∙ ap (λ b. min (c.args.end - start) (b - index)) c.bits-width.ensures in
    let forward : start ≤ c.args.end = omega (arith, start_is g c, begun g c, c.requires.forward) in
    record {
      made = λ k low high under.
          ⊎_elim
          (λ here. made_bit w c.args.first c.args.end q start index c.min-count.result ms ss _ _ pos put (inside g c) begins
          (start_is g c) at many forward c.with_used_bits.ensures.made k here low high)
          (λ other. written_other w ss _ q _ k put other ∙ c.loop-q.invariant.made k low high (omega arith))
          (cases_eq (k / w) q);
      before = λ k low.
          bit_below w c.args.first c.args.end q start index c.min-count.result ms ss _ _ pos put (inside g c) begins (start_is g c) at many forward
          (λ j h. c.with_used_bits.ensures.below j h ∙ ap (λ m. is_one m j) (own_is g c)) k low
          ∙ c.loop-q.invariant.before k low;
      after = λ k high.
          bit_above w c.args.first c.args.end q start index c.min-count.result ms ss _ _ pos put (inside g c) begins (start_is g c) at many forward
          (λ j h within. c.with_used_bits.ensures.above j h within ∙ ap (λ m. is_one m j) (own_is g c)) k high
          ∙ c.loop-q.invariant.after k high;
      in_place = grind (arith, c.put_block.ensures.in_place, c.loop-q.invariant.in_place);
    }

pub returns-clause-made : goal.returns-clause-made
returns-clause-made g c = λ k low high.
    c.loop-q.invariant.made k low high (omega (arith, blocks_for-above g.B.BitBlock.width c.args.end k g.met.B.BitBlock.width_law.positive high, c.block_count-q-end.ensures))

pub overflow_mul-q : goal.overflow_mul-q
overflow_mul-q g c =
    omega (arith, reaches _ _ _ c.loop-q.q _ g.met.B.BitBlock.width_law.positive c.bits-width.ensures c.block_count-q-end.ensures (omega arith), c.requires.in_blocks, c.requires.fits)

pub overflow_mul-index : goal.overflow_mul-index
overflow_mul-index g c =
    omega (arith, reaches _ _ _ c.loop-q.q _ g.met.B.BitBlock.width_law.positive c.bits-width.ensures c.block_count-q-end.ensures (omega arith), c.requires.in_blocks, c.requires.fits)

pub overflow_sub-index : goal.overflow_sub-index
overflow_sub-index g c = omega (arith, c.max-start.ensures)

pub overflow_sub-end : goal.overflow_sub-end
overflow_sub-end g c =
    omega (arith, c.max-start.ensures, reaches _ _ _ c.loop-q.q _ g.met.B.BitBlock.width_law.positive c.bits-width.ensures c.block_count-q-end.ensures (omega arith), c.requires.forward)

pub overflow_sub-width : goal.overflow_sub-width
overflow_sub-width g c =
    omega (arith, c.max-start.ensures, starts_in _ _ _ c.loop-q.q _ g.met.B.BitBlock.width_law.positive c.bits-width.ensures c.block_index-q.ensures (omega arith))

pub with_used_bits-requires : goal.with_used_bits-requires
with_used_bits-requires g c = record {
  of_block = c.block_at-own.ensures.of_block;
  index =
      let pos = g.met.B.BitBlock.width_law.positive in
      omega (arith, c.max-start.ensures, c.bits-width.ensures, pos, starts_in _ _ _ c.loop-q.q _ pos c.bits-width.ensures c.block_index-q.ensures (omega arith));
  within =
      omega (arith, c.max-start.ensures, c.min-count.ensures, c.bits-width.ensures, starts_in _ _ _ c.loop-q.q _ g.met.B.BitBlock.width_law.positive c.bits-width.ensures c.block_index-q.ensures (omega arith));
  in_bounds =
      omega (arith, c.max-start.ensures, c.min-count.ensures, reaches _ _ _ c.loop-q.q _ g.met.B.BitBlock.width_law.positive c.bits-width.ensures c.block_count-q-end.ensures (omega arith), c.requires.forward, c.requires.in_blocks);
  each = c.requires.blocks;
}

pub block_at-own-requires-clause-in_bounds : goal.block_at-own-requires-clause-in_bounds
block_at-own-requires-clause-in_bounds g c =
    let there = held g.B.BitBlock.width c.args.end c.loop-q.q (vec_len c.args.summary.now) g.met.B.BitBlock.width_law.positive (omega (arith, c.block_count-q-end.ensures)) c.requires.in_summary in
    rw c.deref.ensures.value (omega (arith, there, c.loop-q.invariant.in_place.len, c.loop-q.summary.ok.0))

pub block_at-own-requires-clause-each : goal.block_at-own-requires-clause-each
block_at-own-requires-clause-each g c = rw c.deref.ensures.value c.loop-q.invariant.in_place.each

pub put_block-requires-clause-in_bounds : goal.put_block-requires-clause-in_bounds
put_block-requires-clause-in_bounds g c =
    omega (arith, held g.B.BitBlock.width c.args.end c.loop-q.q (vec_len c.args.summary.now) g.met.B.BitBlock.width_law.positive (omega (arith, c.block_count-q-end.ensures)) c.requires.in_summary, c.loop-q.invariant.in_place.len)

pub put_block-requires-clause-each : goal.put_block-requires-clause-each
put_block-requires-clause-each g c = c.loop-q.invariant.in_place.each

pub put_block-requires-clause-of_block : goal.put_block-requires-clause-of_block
put_block-requires-clause-of_block g c = c.with_used_bits.ensures.of_block

pub loop-q-init : goal.loop-q-init
loop-q-init g c = record {
  made = λ k low high under. absurd (omega (arith, div_le g.B.BitBlock.width c.args.first k g.met.B.BitBlock.width_law.positive low, c.block_index-q.ensures, under));
  before = λ k low. refl;
  after = λ k high. refl;
  in_place = record { each = c.requires.each; len = refl; capacity = refl };
}
