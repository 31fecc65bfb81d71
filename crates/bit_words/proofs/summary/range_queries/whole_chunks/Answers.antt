use Rattle.bit_words.proofs.RangeCountLemmas.{chunk_begins, past_chunk}
use Rattle.bit_words.proofs.summary.range_queries.whole_chunks.Goals as goal

pub returns-clause-begun : goal.returns-clause-begun
returns-clause-begun g c = past_chunk g.B.BitBlock.width c.args.start _ _ g.met.B.BitBlock.width_law.positive c.block_index.ensures c.block_index-first.ensures

pub returns-clause-ended : goal.returns-clause-ended
returns-clause-ended g c = chunk_begins g.B.BitBlock.width c.args.end _ _ c.block_index-2.ensures c.block_index-3.ensures
