use Rattle.std.{proofs.Common.{◌≡◌, ◌∙◌, ◌+◌, ◌-◌, ◌*◌, map, sym, ap, arith, mul-le-mul_right, le_of_mul-le-mul_right}, specs.List.{count_by, range_with_len}}
use Rattle.bit_blocks.{specs.Storage.value_at, proofs.SpanCountLemmas.{count-le, count-parts}}
use Rattle.bit_words.proofs.summary.range_queries.ones_around_chunks.{Given.Over, Goals.{After-ones_in_span, After-ones_of_whole_chunks}}
use Rattle.bit_words.proofs.summary.range_queries.ones_around_chunks.Goals as goal

-- those up to the end of the chunks
begun : (g : Over) (c : After-ones_of_whole_chunks g)
    → c.ones_in_span-begun.result + c.ones_of_whole_chunks.result ≡ count_by (value_at g.B.BitBlock.width
    (map g.B.BitBlock.number c.args.blocks.now))
    (range_with_len c.args.start (c.args.last * g.B.BitBlock.width * g.B.BitBlock.width - c.args.start))
begun g c =
    let w = g.B.BitBlock.width in
    let f = value_at w (map g.B.BitBlock.number c.args.blocks.now) in
    let from = ap (λ b. c.args.first * b * b) c.bits-width.ensures in
    let first = rw from at c.ones_in_span-begun.ensures in
    let forward = mul-le-mul_right w (mul-le-mul_right w c.requires.some) in
    omega (arith, first, c.ones_of_whole_chunks.ensures, count-parts f c.args.start (c.args.first * w * w) (c.args.last * w * w) (omega (arith, c.requires.begun)) forward)

-- all of them
all : (g : Over) (c : After-ones_in_span g)
    → c.ones_in_span-begun.result + c.ones_of_whole_chunks.result ≡ count_by (value_at g.B.BitBlock.width
    (map g.B.BitBlock.number c.args.blocks.now))
    (range_with_len c.args.start (c.args.last * g.B.BitBlock.width * g.B.BitBlock.width - c.args.start))
    → c.ones_in_span-begun.result + c.ones_of_whole_chunks.result + c.ones_in_span.result ≡ count_by (value_at g.B.BitBlock.width (map g.B.BitBlock.number c.args.blocks.now))
    (range_with_len c.args.start (c.args.end - c.args.start))
all g c before =
    let w = g.B.BitBlock.width in
    let f = value_at w (map g.B.BitBlock.number c.args.blocks.now) in
    let to = ap (λ b. c.args.last * b * b) c.bits-width.ensures in
    let last = rw to at c.ones_in_span.ensures in
    let forward = mul-le-mul_right w (mul-le-mul_right w c.requires.some) in
    omega (arith, before, last, count-parts f c.args.start (c.args.last * w * w) c.args.end (omega (arith, forward, c.requires.begun)) c.requires.ended)

pub ones_in_span-begun-requires-clause-within : goal.ones_in_span-begun-requires-clause-within
ones_in_span-begun-requires-clause-within g c =
    let w = g.B.BitBlock.width in
    omega (arith, ap (λ b. c.args.first * b * b) c.bits-width.ensures, mul-le-mul_right w (mul-le-mul_right w c.requires.some), c.requires.ended, c.requires.within)

pub ones_of_whole_chunks-requires-clause-within : goal.ones_of_whole_chunks-requires-clause-within
ones_of_whole_chunks-requires-clause-within g c = le_of_mul-le-mul_right (omega (arith, c.requires.ended, c.requires.within)) g.met.B.BitBlock.width_law.positive

pub overflow_add-ones : goal.overflow_add-ones
overflow_add-ones g c =
    let w = g.B.BitBlock.width in
    let count = begun g (goal.at.overflow_add-ones g c).After-ones_of_whole_chunks in
    let few = count-le (value_at w (map g.B.BitBlock.number c.args.blocks.now)) c.args.start (c.args.last * w * w - c.args.start) in
    omega (arith, count, few, c.requires.ended, c.ranges.end.fits)

pub returns-then-to-end : goal.returns-then-to-end
returns-then-to-end g c =
    let at = goal.at.returns-then-to-end g c in
    let end = sym (ap (λ b. c.args.last * b * b) c.bits-width.ensures) ∙ c.if-to-end.true in
    rw end at (begun g at.After-ones_of_whole_chunks)

pub overflow_add-result : goal.overflow_add-result
overflow_add-result g c =
    let at = goal.at.overflow_add-result g c in
    let count = all g at.After-ones_in_span (begun g at.After-ones_of_whole_chunks) in
    let few = count-le (value_at g.B.BitBlock.width (map g.B.BitBlock.number c.args.blocks.now)) c.args.start (c.args.end - c.args.start) in
    omega (arith, count, few, c.ranges.end.fits)

pub returns : goal.returns
returns g c = let at = goal.at.returns g c in all g at.After-ones_in_span (begun g at.After-ones_of_whole_chunks)
