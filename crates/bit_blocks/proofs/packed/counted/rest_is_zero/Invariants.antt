use Rattle.std.proofs.Common.{◌≡◌, ℕ, ◌+◌, ◌<◌, ◌≤◌, map, get_or}
use Rattle.bit_blocks.proofs.packed.counted.rest_is_zero.Given as goal

abbrev pub invariant-loop-k : goal.invariant-loop-k
invariant-loop-k g l = record {
  zero : (q : ℕ) → l.start ≤ q → q < l.k → get_or (map g.B.BitBlock.number l.blocks) q 0 ≡ 0;
  steps : l.steps + l.start ≡ l.fn.steps + l.k;
}
