use Rattle.bit_words.proofs.TouchedLemmas.{ones_of_first, IsPartlyMerged}
use Rattle.bit_words.proofs.summary.merges.touched.merge_touched.Given as goal

abbrev pub invariant-loop-others : goal.invariant-loop-others
invariant-loop-others g l = record {
  of_left : g.B.BitBlock.is_block l.left;
  of_digits : g.B.BitBlock.is_block l.digits;
  partly : IsPartlyMerged g.O.Operation.merge g.B.BitBlock.width g.B.BitBlock.number g.B.BitBlock.is_block l.q
      (g.S.Others.digit l.others) l.fn.blocks l.blocks (g.B.BitBlock.number l.left) (g.B.BitBlock.number l.digits);
}

abbrev pub decreases-loop-others : goal.decreases-loop-others
decreases-loop-others g l = ones_of_first (g.B.BitBlock.number l.left) g.B.BitBlock.width
