use Rattle.std.proofs.Common.{◌≡◌, ◌+◌, ◌*◌, ◌∙◌, map, sym, ap, arith}
use Rattle.bit_blocks.{specs.Digits.is_one, proofs.{BlockMergeLemmas.merged_stay, StorageLemmas.value_at-index}}
use Rattle.bit_words.proofs.{ChunkLemmas.chunk_summary, TouchedLemmas.stay_untouched}
use Rattle.bit_words.proofs.summary.merges.merge_chunk_at.Goals as goal

pub merge_chunk-digits-requires-clause-says : goal.merge_chunk-digits-requires-clause-says
merge_chunk-digits-requires-clause-says g c = λ p index.
    ap (λ n. is_one n p) c.block_at-own.ensures.of_number
    ∙ sym (value_at-index g.B.BitBlock.width (map g.B.BitBlock.number c.args.summary.now) c.args.q p index)
    ∙ c.requires.summary.digit (c.args.q * g.B.BitBlock.width + p)

pub returns-else-is_nonzero-clause-has : goal.returns-else-is_nonzero-clause-has
returns-else-is_nonzero-clause-has g c =
    let zero : g.B.BitBlock.number c.touched_at-touched.result ≡ 0 = grind (arith, c.is_nonzero.ensures, c.if-is_nonzero.false) in
    merged_stay _ g.B.BitBlock.width _ _ _ _ _ _ c.requires.can.each (stay_untouched _ _ _ c.args.q _ _ _ zero c.touched_at-touched.ensures.kept)

pub returns-then-is_nonzero-clause-summary : goal.returns-then-is_nonzero-clause-summary
returns-then-is_nonzero-clause-summary g c =
    chunk_summary _ g.B.BitBlock.width c.args.q _ _ _ _ _ _ _ _ g.met.B.BitBlock.width_law.positive
    c.merge_chunk-digits.ensures.has c.requires.summary c.requires.in_summary c.put_in.ensures.numbers c.put_in.ensures.each
    c.put_in.ensures.len c.merge_chunk-digits.ensures.digits
