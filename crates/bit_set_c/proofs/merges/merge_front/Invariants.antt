use Rattle.std.proofs.Common.{◌≡◌, ℕ, ◌<◌, drop, get_or, length}
use Rattle.bit_blocks.specs.{Digits.is_one, Merges.merge_of_values}
use Rattle.bit_set_c.specs.Block.{width}
use Rattle.bit_set_c.proofs.merges.merge_front.Given as goal

-- the first k blocks are merged, and the rest of the slice is as it was
abbrev pub invariant-loop-k : goal.invariant-loop-k
invariant-loop-k l = record {
  room : length l.to ≡ length l.fn.to;
  digits : (i j : ℕ) → i < l.k → j < width → is_one (get_or l.to i 0) j ≡ merge_of_values l.merge (is_one (get_or l.a i 0) j) (is_one (get_or l.b i 0) j);
  others : drop l.k l.to ≡ drop l.k l.fn.to;
}
