use Rattle.bit_blocks.proofs.MismatchLemmas.{on_none, tells_none}
use Rattle.bit_blocks.proofs.packed.differences.are_others.Goals as goal

pub returns : goal.returns
returns g c = (
  λ is. on_none _ _ _ _ c.same.ensures c.zero.ensures.of_number c.differences.ensures.none is,
  λ all. tells_none _ _ _ _ c.same.ensures c.zero.ensures.of_number c.differences.ensures.none all,
)
