use Rattle.std.proofs.Common.{◌≡◌, ℕ, ◌+◌, ◌*◌, ◌<◌, ◌≤◌, All, map, get_or, length}
use Rattle.bit_blocks.specs.{Digits.is_one, Storage.is_used}
use Rattle.bit_words.proofs.summary.differences.follow_others.Given as goal

abbrev pub invariant-loop-q : goal.invariant-loop-q
invariant-loop-q g l = record {
  done : (p j : ℕ) → p < l.q → j < g.B.BitBlock.width → is_one (get_or (map g.B.BitBlock.number l.summary) p 0) j ≡ is_used (map g.B.BitBlock.number l.blocks) (p * g.B.BitBlock.width + j);
  past : (p : ℕ) → l.q ≤ p → get_or (map g.B.BitBlock.number l.summary) p 0 ≡ get_or (map g.B.BitBlock.number l.fn.summary) p 0;
  each_sum : All g.B.BitBlock.is_block l.summary;
  summary_len : length l.summary ≡ length l.fn.summary;
}
