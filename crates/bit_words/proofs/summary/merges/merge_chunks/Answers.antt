use Rattle.std.proofs.Common.{◌+◌, ◌*◌, ◌∙◌, refl, arith, mul-le-mul_right}
use Rattle.bit_blocks.proofs.BlockMergeLemmas.{merged_more}
use Rattle.bit_words.proofs.ChunkLemmas.{chunk_summary}
use Rattle.bit_words.proofs.summary.merges.merge_chunks.Goals as goal

pub loop-q-preserved : goal.loop-q-preserved
loop-q-preserved g c =
    let w = g.B.BitBlock.width in
    record {
      has = merged_more _ _ _ _ (c.args.first * w) (c.loop-q.q * w) ((c.loop-q.q + 1) * w) _ _ _ _ _ _
          (mul-le-mul_right w (omega (arith, c.loop-q.auto.q))) (omega arith) refl refl c.loop-q.invariant.has
          c.merge_whole-digits.ensures.has;
      summary = chunk_summary _ w c.loop-q.q _ _ _ _ _ _ _ _ g.met.B.BitBlock.width_law.positive
          c.merge_whole-digits.ensures.has c.loop-q.invariant.summary (omega (arith, c.requires.in_summary, c.loop-q.invariant.len, c.loop-q.auto.q)) c.put_in.ensures.numbers c.put_in.ensures.each
          c.put_in.ensures.len c.merge_whole-digits.ensures.digits;
      len = c.put_in.ensures.len ∙ c.loop-q.invariant.len;
    }
