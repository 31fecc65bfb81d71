use Rattle.std.proofs.{Common.{◌∙◌}, lemmas.Result.{IfOk-weaker}}
use Rattle.bit_blocks.proofs.ByteLemmas.{placed-lowest}
use Rattle.bit_blocks.proofs.packed.bytes.blocks_of_bytes_lsb.Goals as goal

pub returns-clause-values : goal.returns-clause-values
returns-clause-values g c = IfOk-weaker c.blocks_in_order.result _ _ (λ blocks values i. values i ∙ placed-lowest c.args.bytes.now i) c.blocks_in_order.ensures.values
