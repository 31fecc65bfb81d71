use Rattle.std.proofs.Common.{◌*◌}
use Rattle.bit_words.specs.Summary.{AreCopied}
use Rattle.bit_words.proofs.summary.copies.copy_chunks.Given as goal

-- the chunks that were passed are those of `from`, and the others as they were
abbrev pub invariant-loop-q : goal.invariant-loop-q
invariant-loop-q g l = record { copied : AreCopied g.B.BitBlock.number g.B.BitBlock.is_block (0 * g.B.BitBlock.width) (l.q * g.B.BitBlock.width) l.from l.fn.blocks l.blocks }
