use Rattle.std.proofs.Common.{◌∙◌}
use Rattle.bit_matrix.proofs.SetLemmas.{kept_more, ones_left}
use Rattle.bit_matrix.proofs.matrix.sets.keep_blocks.Goals as goal

pub loop-k-preserved : goal.loop-k-preserved
loop-k-preserved g c =
    let w = g.B.BitBlock.width in
    let pos = g.met.B.BitBlock.width_law.positive in
    let before = c.loop-k.invariant in
    let keeps = c.keep_in_block.ensures.values in
    record {
      kept = kept_more w c.loop-k.k _ _ _ _ _ pos keeps c.block_at.ensures.of_number before.kept before.ones;
      ones = ones_left w c.loop-k.k _ _ _ _ pos keeps before.ones;
      len = keeps.len ∙ before.len;
      capacity = c.keep_in_block.ensures.capacity ∙ before.capacity;
    }
