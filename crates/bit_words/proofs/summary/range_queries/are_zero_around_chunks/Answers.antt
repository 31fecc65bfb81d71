use Rattle.std.proofs.Common.{◌≡◌, ◌∙◌, ◌-◌, ◌*◌, ◌≤◌, ◌<◌, ◌↔◌, ℕ, All, refl, false, length, map, take, sym, ap, arith, le_of_mul-le-mul_right, mul-le-mul_right}
use Rattle.std.proofs.lemmas.{Bool.false≢true, List.Elements.{All-same, All-take, All-drop}}
use Rattle.bit_blocks.specs.Storage.{value_at}
use Rattle.bit_words.proofs.RangeCountLemmas.{chunks_within, none_within, zero_chunks, zero_parts, zero_within}
use Rattle.bit_words.proofs.summary.range_queries.are_zero_around_chunks.{Given.Over, Goals.{After-bits-width, After-split_at-2}}
use Rattle.bit_words.proofs.summary.range_queries.are_zero_around_chunks.Goals as goal

-- the list has all chunks before `last`
chunks : (g : Over) (c : After-bits-width g) → c.args.last ≤ length c.args.summary.now
chunks g c =
    let pos = g.met.B.BitBlock.width_law.positive in
    let whole : c.args.last * g.B.BitBlock.width ≤ length c.args.blocks.now = le_of_mul-le-mul_right (omega (arith, c.requires.ended, c.requires.within)) pos in
    rw c.requires.summary.packed.count (chunks_within g.B.BitBlock.width (length c.args.blocks.now) c.args.last pos whole)

-- whether these are 0, by the part of the summary
middle : (g : Over) (c : After-split_at-2 g) → All (λ block. g.B.BitBlock.number block ≡ 0) c.split_at-2.result.0.now
    ↔ ((i : ℕ) → c.args.first * g.B.BitBlock.width * g.B.BitBlock.width ≤ i → i < c.args.last * g.B.BitBlock.width * g.B.BitBlock.width
    → value_at g.B.BitBlock.width (map g.B.BitBlock.number c.args.blocks.now) i ≡ false)
middle g c =
    let part = c.split_at-2.ensures.front ∙ ap (take (c.args.last - c.args.first)) c.split_at.ensures.back in
    zero_chunks g.B.BitBlock.width c.args.first c.args.last g.B.BitBlock.number g.B.BitBlock.is_block
    (λ x is. (g.met.B.BitBlock.number_law x is).0) g.met.B.BitBlock.width_law.positive c.args.blocks.now c.args.summary.now _
    c.requires.each c.requires.summary part

pub span_merges_to_false-requires-clause-within : goal.span_merges_to_false-requires-clause-within
span_merges_to_false-requires-clause-within g c =
    let w = g.B.BitBlock.width in
    omega (arith, ap (λ b. c.args.first * b * b) c.bits-width.ensures, mul-le-mul_right w (mul-le-mul_right w c.requires.some), c.requires.ended, c.requires.within)

pub split_at-requires : goal.split_at-requires
split_at-requires g c = omega (arith, chunks g (goal.at.split_at-requires g c).After-bits-width, c.requires.some)

pub split_at-requires-2 : goal.split_at-requires-2
split_at-requires-2 g c = omega (arith, chunks g (goal.at.split_at-requires-2 g c).After-bits-width, c.split_at.ensures.back_len)

pub are_zero-requires : goal.are_zero-requires
are_zero-requires g c =
    let is_block = g.B.BitBlock.is_block in
    All-same is_block _ _ c.split_at-2.ensures.front (All-take is_block _ _ (All-same is_block _ _ c.split_at.ensures.back (All-drop is_block _ _ c.requires.summary.packed.each)))

pub returns-then-not-span_merges_to_false : goal.returns-then-not-span_merges_to_false
returns-then-not-span_merges_to_false g c =
    let w = g.B.BitBlock.width in
    let from = ap (λ b. c.args.first * b * b) c.bits-width.ensures in
    let before = mul-le-mul_right w (mul-le-mul_right w c.requires.some) in (
      λ no. absurd (false≢true no),
      λ all. absurd (false≢true (sym c.if-not-span_merges_to_false.true
          ∙ c.span_merges_to_false.ensures.1 (zero_within w c.args.start c.args.end c.args.start _ _ (omega arith) (omega (arith, from, before, c.requires.ended)) all))),
    )

pub returns-then-not-are_zero : goal.returns-then-not-are_zero
returns-then-not-are_zero g c =
    let w = g.B.BitBlock.width in
    let zero = middle g (goal.at.returns-then-not-are_zero g c).After-split_at-2 in (
      λ no. absurd (false≢true no),
      λ all. absurd (false≢true (sym c.if-not-are_zero.true
          ∙ c.are_zero.ensures.1 (zero.1 (none_within w c.args.start c.args.end _ _ _ (omega (arith, c.requires.begun)) c.requires.ended all)))),
    )

pub returns-then-to-end : goal.returns-then-to-end
returns-then-to-end g c =
    let w = g.B.BitBlock.width in
    let from = ap (λ b. c.args.first * b * b) c.bits-width.ensures in
    let to = sym (ap (λ b. c.args.last * b * b) c.bits-width.ensures) ∙ c.if-to-end.true in
    let first = rw from at (c.span_merges_to_false.ensures.0 c.if-not-span_merges_to_false.false) in
    let chunks = (middle g (goal.at.returns-then-to-end g c).After-split_at-2).0 (c.are_zero.ensures.0 c.if-not-are_zero.false) in (
      λ _. zero_parts w c.args.start _ _ c.args.end _ first chunks (record { value = λ i reached below. absurd (omega (arith, to, reached, below)) }),
      λ _. refl,
    )

pub returns : goal.returns
returns g c =
    let w = g.B.BitBlock.width in
    let from = ap (λ b. c.args.first * b * b) c.bits-width.ensures in
    let to = ap (λ b. c.args.last * b * b) c.bits-width.ensures in
    let first = rw from at (c.span_merges_to_false.ensures.0 c.if-not-span_merges_to_false.false) in
    let last = rw to at c.span_merges_to_false-2.ensures in
    let chunks = (middle g (goal.at.returns g c).After-split_at-2).0 (c.are_zero.ensures.0 c.if-not-are_zero.false) in
    let before = mul-le-mul_right w (mul-le-mul_right w c.requires.some) in (
      λ yes. zero_parts w c.args.start _ _ c.args.end _ first chunks (last.0 yes),
      λ all. last.1 (zero_within w c.args.start c.args.end _ c.args.end _ (omega (arith, c.requires.begun, before)) (omega arith) all),
    )
