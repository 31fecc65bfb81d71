use Rattle.std.proofs.{Common.{arith, refl}, lemmas.List.{get_or_past, length-map}}
use Rattle.bit_blocks.proofs.packed.counted.rest_is_zero.Goals as goal

pub returns-clause-zero : goal.returns-clause-zero
returns-clause-zero g c = (λ _ k from. grind (arith, c.loop-k.invariant.zero k from, get_or_past, length-map), λ _. refl)

pub returns-clause-stops : goal.returns-clause-stops
returns-clause-stops g c = λ k from some before. absurd (some (grind (arith, c.loop-k.invariant.zero k from, get_or_past, length-map)))
