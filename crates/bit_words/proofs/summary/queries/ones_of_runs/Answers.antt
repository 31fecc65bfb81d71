use Rattle.std.proofs.Common.{◌+◌, ◌*◌, ◌≤◌, length, map, get_or, get_or-drop, count_ones, sym, ap, ◌∙◌, arith, mul-le-mul_right}
use Rattle.std.proofs.lemmas.List.{drop-map, take_all, Elements.{All-same, All-take, All-drop}, Sums.sum_by-take-le}
use Rattle.bit_blocks.{specs.Storage.ones_in, proofs.CountLemmas.{chunks_counted, chunks_none}}
use Rattle.bit_words.proofs.summary.queries.ones_of_runs.Goals as goal

pub ones_of-ones-requires-clause-fits : goal.ones_of-ones-requires-clause-fits
ones_of-ones-requires-clause-fits g c =
    let xs = c.args.blocks.now in
    let end = (c.loop-q.q + c.chunks_before_zero-used.result) * g.B.BitBlock.width in
    let more = chunks_counted g.B.BitBlock.number _ _ c.chunks_before_zero-used.result _ xs _
    c.first_chunks-in-loop-q.result.0.now c.loop-q.invariant.counted c.first_chunks-in-loop-q.ensures.first
    c.first_chunks.ensures.rest in
    omega (arith, more, sum_by-take-le (λ x. count_ones (g.B.BitBlock.number x)) xs end, c.requires.fits)

pub overflow_add-ones : goal.overflow_add-ones
overflow_add-ones g c =
    let xs = c.args.blocks.now in
    let end = (c.loop-q.q + c.chunks_before_zero-used.result) * g.B.BitBlock.width in
    let more = chunks_counted g.B.BitBlock.number _ _ c.chunks_before_zero-used.result _ xs _
    c.first_chunks-in-loop-q.result.0.now c.loop-q.invariant.counted c.first_chunks-in-loop-q.ensures.first
    c.first_chunks.ensures.rest in
    omega (arith, more, c.ones_of-ones.ensures, sum_by-take-le (λ x. count_ones (g.B.BitBlock.number x)) xs end, c.requires.fits)

pub loop-q-preserved : goal.loop-q-preserved
loop-q-preserved g c =
    let number = g.B.BitBlock.number in
    let w = g.B.BitBlock.width in
    let xs = c.args.blocks.now in
    let summary = c.args.summary.now in
    let i = c.loop-q.q in
    let n = c.chunks_before_zero-used.result in
    let front = c.first_chunks-in-loop-q.result.0.now in
    let back = c.first_chunks.result.1.now in
    let past = c.split_at-in-loop-q.ensures.back in
    record {
      within = omega (arith, ap length past, c.zeros_before-q.ensures.within);
      counted =
          ap (λ ones. c.loop-q.ones + ones) c.ones_of-ones.ensures
          ∙ chunks_counted number w i n c.loop-q.ones xs back front c.loop-q.invariant.counted c.first_chunks-in-loop-q.ensures.first c.first_chunks.ensures.rest
          ∙ chunks_none number w (i + n) c.zeros_before-q.result xs summary c.requires.digit (λ j within.
          sym (get_or-drop (i + n) (map number summary) j 0)
          ∙ ap (λ ms. get_or ms j 0) (drop-map number (i + n) summary ∙ ap (map number) (sym past))
          ∙ c.zeros_before-q.ensures.zeros j within);
    }

pub chunks_before_zero-used-requires : goal.chunks_before_zero-used-requires
chunks_before_zero-used-requires g c =
    record { each = All-same g.B.BitBlock.is_block _ _ c.split_at.ensures.back (All-drop g.B.BitBlock.is_block _ _ c.requires.summary) }

pub ones_of-ones-requires-clause-each : goal.ones_of-ones-requires-clause-each
ones_of-ones-requires-clause-each g c =
    let is_block = g.B.BitBlock.is_block in
    All-same is_block _ _ c.first_chunks-in-loop-q.ensures.first
    (All-take is_block _ _ (All-same is_block _ _ c.first_chunks.ensures.rest (All-drop is_block _ _ c.requires.each)))

pub zeros_before-q-requires : goal.zeros_before-q-requires
zeros_before-q-requires g c =
    record { each = All-same g.B.BitBlock.is_block _ _ c.split_at-in-loop-q.ensures.back (All-drop g.B.BitBlock.is_block _ _ c.requires.summary) }

pub returns : goal.returns
returns g c =
    let w = g.B.BitBlock.width in
    let end : length c.args.summary.now ≤ c.loop-q.q = omega arith in
    let more = mul-le-mul_right w end in
    c.loop-q.invariant.counted ∙ ap (ones_in g.B.BitBlock.number) (take_all (c.loop-q.q * w) c.args.blocks.now (omega (arith, more, c.requires.enough)))
