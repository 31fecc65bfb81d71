use Rattle.std.{proofs.Common.{◌≡◌, ◌+◌, ◌*◌, min, take}, specs.List.sum_by}
use Rattle.bit_blocks.specs.Storage.{ones_in}
use Rattle.bit_words.proofs.bit_vec.nonzero.skipping.pull_chunk.Given as goal

abbrev pub invariant-loop-group : goal.invariant-loop-group
invariant-loop-group g l = record {
  ones : l.ones ≡ ones_in g.B.BitBlock.number (take (l.group * 8) l.blocks);
  steps : l.steps ≡ l.fn.steps + sum_by (λ x. min 1 (g.B.BitBlock.number x)) (take (l.group * 8) l.blocks);
}
