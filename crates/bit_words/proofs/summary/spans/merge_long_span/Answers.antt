use Rattle.std.proofs.Common.{◌∙◌, ◌*◌, ◌<◌, ◌≤◌, All, length, subst, sym, arith, le_of_mul-le-mul_right}
use Rattle.std.proofs.lemmas.{Bool.false≢true, List.Elements.{All-drop, All-take}}
use Rattle.bit_words.specs.Summary.{short_count}
use Rattle.bit_words.proofs.{ClearedLemmas.only_difference, RangeCountLemmas.chunks_within, SummaryLemmas.stored_each}
use Rattle.bit_words.proofs.summary.spans.merge_long_span.Goals as goal

pub split_at-requires : goal.split_at-requires
split_at-requires g c =
    let w = g.B.BitBlock.width in
    let pos = g.met.B.BitBlock.width_law.positive in
    let last = c.whole_chunks-first.result.1 in
    let long : short_count w < length c.args.blocks.now.items = omega (arith, c.is_short.ensures.long c.if-not-is_short.true) in
    let whole : last * w * w ≤ length c.args.blocks.now.items * w = rw (← c.args.blocks.now.ok.0) (omega (arith, c.whole_chunks-first.ensures.ended, c.requires.within)) in
    omega (arith, (c.requires.summary.long long).packed.count, chunks_within w _ last pos (le_of_mul-le-mul_right whole pos))

pub is_sparse-requires : goal.is_sparse-requires
is_sparse-requires g c =
    let P = g.B.BitBlock.is_block in
    let each = stored_each _ _ _ _ _ c.requires.summary in
    let front = subst (All P) (sym c.split_at.ensures.front) (All-take P c.whole_chunks-first.result.1 c.args.summary.now each) in
    record { each = subst (All P) (sym c.split_at-then-first-last.ensures.back) (All-drop P _ _ front) }

pub returns-then-is_sparse-clause-span : goal.returns-then-is_sparse-clause-span
returns-then-is_sparse-clause-span g c =
    let is = only_difference g.O.Operation.merge (λ e. absurd (false≢true (sym c.if-not-is_union.true ∙ c.is_union.ensures.1 e))) c.requires.keeps c.requires.fills in
    rw is c.clear_around_chunks.ensures.span
