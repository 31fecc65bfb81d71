use Rattle.std.{proofs.Common.take, specs.Prelude.map}
use Rattle.bit_set.specs.Entries.{AreNumbers}
use Rattle.bit_set.proofs.json.writing.numbers.Given as goal

-- the numbers of the blocks so far
abbrev pub invariant-loop-block : goal.invariant-loop-block
invariant-loop-block g l = AreNumbers (map g.B.BitBlock.number (take l.block-index l.blocks)) l.entries.items
