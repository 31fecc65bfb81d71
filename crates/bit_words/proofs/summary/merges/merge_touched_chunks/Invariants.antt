use Rattle.std.proofs.Common.{◌≡◌, ◌*◌, length}
use Rattle.bit_blocks.specs.BlockMerges.{HasMerged}
use Rattle.bit_words.specs.Summary.{IsSummary}
use Rattle.bit_words.proofs.summary.merges.merge_touched_chunks.Given as goal

abbrev pub invariant-loop-q : goal.invariant-loop-q
invariant-loop-q g l = record {
  has : HasMerged g.O.Operation.merge g.B.BitBlock.width g.B.BitBlock.number g.B.BitBlock.is_block
      (l.first * g.B.BitBlock.width) (l.q * g.B.BitBlock.width) (g.S.Others.digit l.others) l.fn.blocks l.blocks;
  summary : IsSummary g.B.BitBlock.width g.B.BitBlock.number g.B.BitBlock.is_block l.blocks l.summary;
  len : length l.summary ≡ length l.fn.summary;
}
