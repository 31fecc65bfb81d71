use Rattle.std.proofs.Common.{◌+◌, ◌*◌, ◌∙◌, refl, arith, mul-le-mul_right}
use Rattle.bit_blocks.proofs.BlockMergeLemmas.{merged_more}
use Rattle.bit_words.proofs.summary.merges.merge_touched_chunks.Goals as goal

pub loop-q-preserved : goal.loop-q-preserved
loop-q-preserved g c =
    let w = g.B.BitBlock.width in
    record {
      has = merged_more _ _ _ _ (c.args.first * w) (c.loop-q.q * w) ((c.loop-q.q + 1) * w) _ _ _ _ _ _
          (mul-le-mul_right w (omega (arith, c.loop-q.auto.q))) (omega arith) refl refl c.loop-q.invariant.has
          c.merge_chunk_at.ensures.has;
      summary = c.merge_chunk_at.ensures.summary;
      len = c.merge_chunk_at.ensures.summary_len ∙ c.loop-q.invariant.len;
    }
