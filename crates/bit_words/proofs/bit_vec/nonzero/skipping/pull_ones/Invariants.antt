use Rattle.std.{proofs.Common.{◌≡◌, ◌+◌, min, take}, specs.List.sum_by}
use Rattle.bit_blocks.specs.Storage.{ones_in}
use Rattle.bit_words.proofs.bit_vec.nonzero.skipping.pull_ones.Given as goal

abbrev pub invariant-loop-block : goal.invariant-loop-block
invariant-loop-block g l = record {
  ones : l.ones ≡ l.before + ones_in g.B.BitBlock.number (take l.block-index l.blocks);
  steps : l.steps ≡ l.fn.steps + sum_by (λ x. min 1 (g.B.BitBlock.number x)) (take l.block-index l.blocks);
}
