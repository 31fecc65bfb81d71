use Rattle.std.proofs.Common.{◌∙◌}
use Rattle.bit_blocks.proofs.ChangeLemmas.{value_read}
use Rattle.bit_blocks.proofs.packed.access.get_bit.Goals as goal

pub returns : goal.returns
returns g c =
    c.has_one_at.ensures ∙ value_read _ _ _ _ _ _ c.block_index.ensures c.bit_index.ensures.value c.block_at-block.ensures.of_number
