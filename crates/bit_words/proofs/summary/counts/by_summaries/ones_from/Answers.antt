use Rattle.std.proofs.Common.{◌≡◌, ◌+◌, ◌-◌, ◌*◌, ◌≤◌, ◌∙◌, ap, length, sym, drop, arith, take_all}
use Rattle.std.proofs.lemmas.List.{length-drop, Elements.{All-same, All-drop}}
use Rattle.bit_blocks.specs.Storage.{ones_in}
use Rattle.bit_words.proofs.{ComparedLemmas.summary_enough, RangeCountLemmas.run_digit}
use Rattle.bit_words.proofs.summary.counts.by_summaries.ones_from.{Given.Over, Goals.After-split_at}
use Rattle.bit_words.proofs.summary.counts.by_summaries.ones_from.Goals as goal

-- how many blocks the rest of the summary is about at most
enough : (g : Over) (c : After-split_at g) → length (drop (c.args.first * g.B.BitBlock.width) c.args.blocks.now) ≤ (length c.args.summary.now - c.args.first) * g.B.BitBlock.width
enough g c =
    let w = g.B.BitBlock.width in
    let all = summary_enough w g.B.BitBlock.number g.B.BitBlock.is_block c.args.blocks.now c.args.summary.now g.met.B.BitBlock.width_law.positive c.requires.summary in
    let parts : length c.args.summary.now * w ≡ (c.args.first + (length c.args.summary.now - c.args.first)) * w =
    ap (λ n. n * w) (omega (arith, c.requires.within)) in
    omega (arith, all, parts, length-drop (c.args.first * w) c.args.blocks.now)

pub ones_of_runs-requires-clause-each : goal.ones_of_runs-requires-clause-each
ones_of_runs-requires-clause-each g c =
    All-same g.B.BitBlock.is_block _ _ c.first_chunks.ensures.rest (All-drop g.B.BitBlock.is_block _ _ c.requires.each)

pub ones_of_runs-requires-clause-summary : goal.ones_of_runs-requires-clause-summary
ones_of_runs-requires-clause-summary g c =
    All-same g.B.BitBlock.is_block _ _ c.split_at.ensures.back (All-drop g.B.BitBlock.is_block _ _ c.requires.summary.packed.each)

pub ones_of_runs-requires-clause-enough : goal.ones_of_runs-requires-clause-enough
ones_of_runs-requires-clause-enough g c =
    let few = enough g (goal.at.ones_of_runs-requires-clause-enough g c).After-split_at in
    rw (c.first_chunks.ensures.rest, c.split_at.ensures.back, length-drop c.args.first c.args.summary.now) few

pub ones_of_runs-requires-clause-digit : goal.ones_of_runs-requires-clause-digit
ones_of_runs-requires-clause-digit g c = λ k within.
    let w = g.B.BitBlock.width in
    let few = enough g (goal.at.ones_of_runs-requires-clause-digit g c).After-split_at in
    let rest = drop (c.args.first * w) c.args.blocks.now in
    let own = drop c.args.first c.args.summary.now in
    run_digit w c.args.first (length c.args.summary.now) g.B.BitBlock.number g.B.BitBlock.is_block c.args.blocks.now _ c.requires.within
    (c.first_chunks.ensures.rest ∙ sym (take_all ((length c.args.summary.now - c.args.first) * w) rest few)) c.args.summary.now _ g.met.B.BitBlock.width_law.positive c.requires.summary
    (c.split_at.ensures.back ∙ sym (take_all (length c.args.summary.now - c.args.first) own (omega (arith, length-drop c.args.first c.args.summary.now)))) k
    (omega (arith, within, few, ap length c.first_chunks.ensures.rest))

pub ones_of_runs-requires-clause-fits : goal.ones_of_runs-requires-clause-fits
ones_of_runs-requires-clause-fits g c = rw c.first_chunks.ensures.rest c.requires.fits

pub returns : goal.returns
returns g c = c.ones_of_runs.ensures ∙ ap (ones_in g.B.BitBlock.number) c.first_chunks.ensures.rest
