use Rattle.std.proofs.Common.{◌≡◌, ◌-◌, ◌++◌, All, map, replicate, vec_len, vec_capacity}
use Rattle.bit_blocks.proofs.packed.copies.with_copies.Given as goal

abbrev pub invariant-loop : goal.invariant-loop
invariant-loop g l = record {
  numbers : map g.B.BitBlock.number l.blocks.items ≡ map g.B.BitBlock.number l.fn.blocks.items ++ replicate (l.counter - vec_len l.fn.blocks) (g.B.BitBlock.number l.block);
  each : All g.B.BitBlock.is_block l.blocks.items;
  count : vec_len l.blocks ≡ l.counter;
  capacity : vec_capacity l.blocks ≡ vec_capacity l.fn.blocks;
}
