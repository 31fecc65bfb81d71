use Rattle.std.proofs.Common.{◌≡◌, ℕ, ◌*◌, ◌<◌, ◌≤◌, false, not, map}
use Rattle.bit_blocks.specs.Storage.{value_at}
use Rattle.bit_blocks.proofs.packed.searching.first_zero.Given as goal

abbrev pub invariant-loop-k : goal.invariant-loop-k
invariant-loop-k g l =
    (j : ℕ) → l.from ≤ j → j < l.k * g.B.BitBlock.width → not (value_at g.B.BitBlock.width (map g.B.BitBlock.number l.blocks) j) ≡ false
