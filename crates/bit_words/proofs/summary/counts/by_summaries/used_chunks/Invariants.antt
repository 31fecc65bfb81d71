use Rattle.std.proofs.Common.{◌≡◌, ℕ, ◌+◌, ◌<◌, ◌≤◌, false, map, get_or}
use Rattle.bit_blocks.specs.Digits.{is_one}
use Rattle.bit_words.specs.MergedOnes.{may_merge}
use Rattle.bit_words.proofs.summary.counts.by_summaries.used_chunks.Given as goal

abbrev pub invariant-loop-j : goal.invariant-loop-j
invariant-loop-j g l =
    let w = g.B.BitBlock.width in
    let number = g.B.BitBlock.number in
    record {
      of_block : g.B.BitBlock.is_block l.digits;
      past : (j : ℕ) → l.j ≤ j → j < w → is_one (number l.digits) j ≡ false;
      none : (j p : ℕ) → j < l.j → is_one (number l.digits) j ≡ false → p < w
          → may_merge g.O.Operation.merge (is_one (get_or (map number l.summary) (l.first + j) 0) p) (is_one (get_or (map number l.other_summary) (l.first + j) 0) p) ≡ false;
    }
