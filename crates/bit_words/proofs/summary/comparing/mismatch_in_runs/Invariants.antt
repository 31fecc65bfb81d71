use Rattle.std.proofs.Common.{◌≡◌, ℕ, ◌*◌, ◌-◌, ◌<◌, ◌≤◌, get_or, length, map}
use Rattle.bit_words.proofs.summary.comparing.mismatch_in_runs.Given as goal

-- the chunks that were passed are the same
abbrev pub invariant-loop-q : goal.invariant-loop-q
invariant-loop-q g l =
    let number = g.B.BitBlock.number in
    record {
      from : l.first ≤ l.q;
      same : (k : ℕ) → k < l.q * g.B.BitBlock.width → get_or (map number l.blocks) k 0 ≡ get_or (map number l.others) k 0;
    }

abbrev pub decreases-loop-q : goal.decreases-loop-q
decreases-loop-q g l = length l.summary - l.q
