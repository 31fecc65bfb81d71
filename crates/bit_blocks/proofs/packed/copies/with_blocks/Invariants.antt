use Rattle.std.proofs.Common.{◌≡◌, ◌+◌, ◌++◌, take, vec_len, vec_capacity}
use Rattle.bit_blocks.proofs.packed.copies.with_blocks.Given as goal

abbrev pub invariant-loop-block : goal.invariant-loop-block
invariant-loop-block g l = record {
  items : l.blocks.items ≡ l.fn.blocks.items ++ take l.block-index l.more;
  count : vec_len l.blocks ≡ vec_len l.fn.blocks + l.block-index;
  capacity : vec_capacity l.blocks ≡ vec_capacity l.fn.blocks;
}
