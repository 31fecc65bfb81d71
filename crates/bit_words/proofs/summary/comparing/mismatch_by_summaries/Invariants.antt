use Rattle.std.proofs.Common.{◌≡◌, ℕ, ◌*◌, ◌-◌, ◌<◌, get_or, map}
use Rattle.bit_words.proofs.summary.comparing.mismatch_by_summaries.Given as goal

-- the chunks that were compared are the same, and the first is among them
abbrev pub invariant-loop-q : goal.invariant-loop-q
invariant-loop-q g l = (0 < l.q) × ((k : ℕ) → k < l.q * g.B.BitBlock.width → get_or (map g.B.BitBlock.number l.blocks) k 0 ≡ get_or (map g.B.BitBlock.number l.others) k 0)

abbrev pub decreases-loop-q : goal.decreases-loop-q
decreases-loop-q g l = l.most - l.q
