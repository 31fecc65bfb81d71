use Rattle.std.proofs.Common.{◌≡◌, ℕ, ◌+◌, ◌*◌, ◌<◌, false, true, get_or, map, length}
use Rattle.bit_blocks.specs.{Digits.is_one, Merges.merge_of_values}
use Rattle.bit_words.proofs.TouchedLemmas.{ones_of_first}
use Rattle.bit_words.proofs.summary.merges.touched.changes_touched.Given as goal

abbrev pub invariant-loop-others : goal.invariant-loop-others
invariant-loop-others g l = record {
  of_left : g.B.BitBlock.is_block l.left;
  inside : (p : ℕ) → p < g.B.BitBlock.width → is_one (g.B.BitBlock.number l.left) p ≡ true → l.q * g.B.BitBlock.width + p < length l.blocks;
  stay : (p j : ℕ) → p < g.B.BitBlock.width → j < g.B.BitBlock.width → is_one (g.B.BitBlock.number l.left) p ≡ false
      → is_one (get_or (map g.B.BitBlock.number l.blocks)
      (l.q * g.B.BitBlock.width + p) 0) j ≡ merge_of_values g.O.Operation.merge
      (is_one (get_or (map g.B.BitBlock.number l.blocks) (l.q * g.B.BitBlock.width + p) 0) j)
      (g.S.Others.digit l.others (l.q * g.B.BitBlock.width + p) j);
}

abbrev pub decreases-loop-others : goal.decreases-loop-others
decreases-loop-others g l = ones_of_first (g.B.BitBlock.number l.left) g.B.BitBlock.width
