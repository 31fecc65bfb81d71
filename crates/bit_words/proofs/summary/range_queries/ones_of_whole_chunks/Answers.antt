use Rattle.std.proofs.Common.{◌≡◌, ◌∙◌, ◌-◌, ◌*◌, ◌^◌, ◌<◌, ℕ, map, get_or, take, drop, length, length-take, ap, arith}
use Rattle.std.proofs.lemmas.List.Elements.{All-same, All-take, All-drop}
use Rattle.bit_blocks.proofs.VectorLemmas.{numbers_below}
use Rattle.bit_words.proofs.RangeCountLemmas.{chunks_within, few_ones, ones_of_run, run_digit}
use Rattle.bit_words.proofs.summary.range_queries.ones_of_whole_chunks.{Given.Over, Goals.{After-first_chunks-2, Start}}
use Rattle.bit_words.proofs.summary.range_queries.ones_of_whole_chunks.Goals as goal

-- the chunks, in one step
run : (g : Over) (c : After-first_chunks-2 g) → c.first_chunks-2.result.0.now ≡ take ((c.args.end - c.args.first) * g.B.BitBlock.width) (drop (c.args.first * g.B.BitBlock.width) c.args.blocks.now)
run g c = c.first_chunks-2.ensures.first ∙ ap (take ((c.args.end - c.args.first) * g.B.BitBlock.width)) c.first_chunks.ensures.rest

below : (g : Over) (c : Start g) (k : ℕ) → get_or (map g.B.BitBlock.number c.args.blocks.now) k 0 < 2 ^ g.B.BitBlock.width
below g c = numbers_below g.B.BitBlock.width _ _ c.args.blocks.now (λ x is. (g.met.B.BitBlock.number_law x is).0) c.requires.each

pub split_at-requires-2 : goal.split_at-requires-2
split_at-requires-2 g c =
    let all = chunks_within g.B.BitBlock.width (length c.args.blocks.now) c.args.end g.met.B.BitBlock.width_law.positive c.requires.within in
    omega (arith, all, c.requires.summary.packed.count, c.split_at.ensures.back_len)

pub ones_of_runs-requires-clause-each : goal.ones_of_runs-requires-clause-each
ones_of_runs-requires-clause-each g c =
    All-same g.B.BitBlock.is_block _ _ (run g (goal.at.ones_of_runs-requires-clause-each g c).After-first_chunks-2)
    (All-take g.B.BitBlock.is_block _ _ (All-drop g.B.BitBlock.is_block _ _ c.requires.each))

pub ones_of_runs-requires-clause-summary : goal.ones_of_runs-requires-clause-summary
ones_of_runs-requires-clause-summary g c =
    let is_block = g.B.BitBlock.is_block in
    All-same is_block _ _ c.split_at-2.ensures.front (All-take is_block _ _ (All-same is_block _ _ c.split_at.ensures.back (All-drop is_block _ _ c.requires.summary.packed.each)))

pub ones_of_runs-requires-clause-digit : goal.ones_of_runs-requires-clause-digit
ones_of_runs-requires-clause-digit g c = λ k within.
    let w = g.B.BitBlock.width in
    let is = run g (goal.at.ones_of_runs-requires-clause-digit g c).After-first_chunks-2 in
    let part = c.split_at-2.ensures.front ∙ ap (take (c.args.end - c.args.first)) c.split_at.ensures.back in
    let count = ap length is ∙ length-take ((c.args.end - c.args.first) * w) (drop (c.args.first * w) c.args.blocks.now) in
    run_digit w c.args.first c.args.end _ _ c.args.blocks.now _ c.requires.forward is c.args.summary.now _ g.met.B.BitBlock.width_law.positive c.requires.summary part k (omega (arith, count, within))

pub ones_of_runs-requires-clause-fits : goal.ones_of_runs-requires-clause-fits
ones_of_runs-requires-clause-fits g c =
    let at = goal.at.ones_of_runs-requires-clause-fits g c in
    let few = few_ones g.B.BitBlock.width c.args.first c.args.end _ g.B.BitBlock.is_block c.args.blocks.now _ c.requires.forward (run g at.After-first_chunks-2) (below g at.Start) c.requires.within in
    omega (arith, few, c.requires.fits)

pub returns : goal.returns
returns g c =
    let at = goal.at.returns g c in
    c.ones_of_runs.ensures ∙ ones_of_run g.B.BitBlock.width c.args.first c.args.end _ g.B.BitBlock.is_block c.args.blocks.now
    _ c.requires.forward (run g at.After-first_chunks-2) (below g at.Start) c.requires.within
