use Rattle.std.proofs.Common.{◌≡◌, ℕ, ◌*◌, ◌<◌, ◌≤◌, false, length, get_or, replicate}
use Rattle.bit_blocks.specs.Bits.{blocks_for, capacity_of}
use Rattle.bit_set.specs.Many.{merged_at}
use Rattle.bit_set.proofs.set.of_many.merged.Given as goal

-- the chunks so far are merged, and the rest is what it was
abbrev pub invariant-loop-chunk : goal.invariant-loop-chunk
invariant-loop-chunk g l = record {
  len : length l.bits.values ≡ l.len;
  done : (i : ℕ) → i < l.chunk * g.B.BitBlock.width * g.B.BitBlock.width → i < l.len
      → get_or l.bits.values i false ≡ merged_at l.merge l.sets i l.value;
  rest : (i : ℕ) → l.chunk * g.B.BitBlock.width * g.B.BitBlock.width ≤ i
      → get_or l.bits.values i false ≡ get_or (replicate l.len l.value) i false;
  capacity : l.bits.capacity ≡ capacity_of g.B.BitBlock.width (blocks_for g.B.BitBlock.width l.len);
}
