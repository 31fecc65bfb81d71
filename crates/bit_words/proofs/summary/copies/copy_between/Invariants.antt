use Rattle.std.proofs.Common.{◌≡◌, ℕ, ◌<◌, ◌≤◌, All, max, get_or, length, map}
use Rattle.bit_words.proofs.summary.copies.copy_between.Given as goal

abbrev pub invariant-loop-k : goal.invariant-loop-k
invariant-loop-k g l =
    let number = g.B.BitBlock.number in
    record {
      upto : l.k ≤ max l.start l.end;
      copied : (k : ℕ) → l.start ≤ k → k < l.k → get_or (map number l.blocks) k 0 ≡ get_or (map number l.from) k 0;
      before : (k : ℕ) → k < l.start → get_or (map number l.blocks) k 0 ≡ get_or (map number l.fn.blocks) k 0;
      after : (k : ℕ) → l.k ≤ k → get_or (map number l.blocks) k 0 ≡ get_or (map number l.fn.blocks) k 0;
      each : All g.B.BitBlock.is_block l.blocks;
      len : length l.blocks ≡ length l.fn.blocks;
    }
