use Rattle.std.proofs.Common.{◌≡◌, ℕ, ◌+◌, ◌*◌, ◌<◌, true, map}
use Rattle.bit_blocks.specs.Digits.{is_one}
use Rattle.bit_words.{specs.MergedOnes.merged_ones, proofs.MergedOnesLemmas.left_of}
use Rattle.bit_words.proofs.summary.counts.by_summaries.ones_of_used_chunks.Given as goal

-- the ones so far, and those of the chunks at which `rest` has a 1, are all
abbrev pub invariant-loop-rest : goal.invariant-loop-rest
invariant-loop-rest g l =
    let w = g.B.BitBlock.width in
    let number = g.B.BitBlock.number in
    let ones = merged_ones g.O.Operation.merge w (map number l.blocks) (map number l.others) in
    record {
      of_block : g.B.BitBlock.is_block l.rest;
      within : (j : ℕ) → j < w → is_one (number l.rest) j ≡ true → j < l.count;
      counted : l.ones + left_of (λ j. ones ((l.first + j) * w) ((l.first + j + 1) * w)) w (number l.rest) ≡ ones (l.first * w) ((l.first + l.count) * w);
    }

-- how many digits are left
abbrev pub decreases-loop-rest : goal.decreases-loop-rest
decreases-loop-rest g l = left_of (λ _. 1) g.B.BitBlock.width (g.B.BitBlock.number l.rest)
