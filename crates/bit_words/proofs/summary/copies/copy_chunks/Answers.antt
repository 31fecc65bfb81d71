use Rattle.std.proofs.Common.{◌==◌, ◌∙◌, not, ap, sym, arith, mul-le-mul_right}
use Rattle.bit_blocks.specs.{Bits.blocks_for}
use Rattle.bit_words.proofs.{ComparedLemmas.summary_enough, CopiedLemmas.{copied_all, copied_more, copied_none}}
use Rattle.bit_words.proofs.summary.copies.copy_chunks.Goals as goal

pub loop-q-init : goal.loop-q-init
loop-q-init g c = record { copied = copied_none g.B.BitBlock.number g.B.BitBlock.is_block _ _ _ c.requires.each }

pub copy_chunk-requires : goal.copy_chunk-requires
copy_chunk-requires g c =
    let is = c.loop-q.invariant.copied in
    record {
      as_long = omega (arith, c.requires.as_long, is.len);
      in_summary = omega arith;
      in_other = omega (arith, c.requires.summary.packed.count, c.requires.from_summary.packed.count ∙ ap (blocks_for g.B.BitBlock.width) c.requires.as_long);
      each = is.each;
      from = c.requires.from;
      fits = omega (arith, is.len, c.requires.summary.packed.fits);
      summary = c.requires.summary.packed.each;
      from_summary = c.requires.from_summary.packed.each;
      says = λ k reached. c.requires.summary.digit k ∙ ap (λ m. not (m == 0)) (sym (is.after k reached));
      says_of_other = λ k _. c.requires.from_summary.digit k;
    }

pub loop-q-preserved : goal.loop-q-preserved
loop-q-preserved g c = record {
  copied = copied_more g.B.BitBlock.number g.B.BitBlock.is_block _ _ _ _ _ _ _ (omega arith) (mul-le-mul_right g.B.BitBlock.width (omega arith)) c.loop-q.invariant.copied c.copy_chunk.ensures;
}

pub returns : goal.returns
returns g c =
    let w = g.B.BitBlock.width in
    let enough = summary_enough _ _ _ _ _ g.met.B.BitBlock.width_law.positive c.requires.summary in
    copied_all w c.loop-q.q g.B.BitBlock.block g.B.BitBlock.number g.B.BitBlock.is_block c.args.from.now c.args.blocks.now _ (λ x is. (g.met.B.BitBlock.number_law x is).1)
    c.requires.from (omega (arith, enough, mul-le-mul_right w c.loop-q-test.false)) c.requires.as_long c.loop-q.invariant.copied
