use Rattle.std.proofs.Common.{◌≡◌, ℕ, ◌/◌, ◌<◌, ◌≤◌, map}
use Rattle.bit_blocks.specs.Storage.{value_at, WritesInPlace, is_used}
use Rattle.bit_words.proofs.summary.summarize_span.Given as goal

abbrev pub invariant-loop-q : goal.invariant-loop-q
invariant-loop-q g l = record {
  made : (k : ℕ) → l.first ≤ k → k < l.end → k / g.B.BitBlock.width < l.q → value_at g.B.BitBlock.width (map g.B.BitBlock.number l.summary.items) k ≡ is_used (map g.B.BitBlock.number l.blocks) k;
  before : (k : ℕ) → k < l.first → value_at g.B.BitBlock.width (map g.B.BitBlock.number l.summary.items) k ≡ value_at g.B.BitBlock.width (map g.B.BitBlock.number l.fn.summary.items) k;
  after : (k : ℕ) → l.end ≤ k → value_at g.B.BitBlock.width (map g.B.BitBlock.number l.summary.items) k ≡ value_at g.B.BitBlock.width (map g.B.BitBlock.number l.fn.summary.items) k;
  in_place : WritesInPlace g.B.BitBlock.is_block l.fn.summary l.summary;
}
