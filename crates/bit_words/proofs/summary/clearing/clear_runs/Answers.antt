use Rattle.std.proofs.Common.{◌==◌, ◌∙◌, not, ap, sym, arith, mul-le-mul_right}
use Rattle.bit_words.proofs.ClearedLemmas.{cleared_more}
use Rattle.bit_words.proofs.summary.clearing.clear_runs.Goals as goal

pub clear_next-q-requires-clause-says : goal.clear_next-q-requires-clause-says
clear_next-q-requires-clause-says g c = λ k reached below. c.requires.says k below ∙ ap (λ m. not (m == 0)) (sym (c.loop-q.invariant.cleared.after k reached))

pub loop-q-preserved : goal.loop-q-preserved
loop-q-preserved g c =
    let w = g.B.BitBlock.width in
    let before = c.loop-q.invariant in
    record {
      forward = omega (arith, before.forward);
      within = c.clear_next-q.ensures.within;
      cleared = cleared_more g.B.BitBlock.number g.B.BitBlock.is_block _ _ _ _ _ _ (mul-le-mul_right w before.forward) (mul-le-mul_right w (omega arith)) before.cleared c.clear_next-q.ensures.cleared;
    }
