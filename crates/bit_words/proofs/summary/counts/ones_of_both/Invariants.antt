use Rattle.std.proofs.Common.{◌≡◌, ◌+◌, map}
use Rattle.bit_words.specs.MergedOnes.{merged_ones}
use Rattle.bit_words.proofs.summary.counts.ones_of_both.Given as goal

abbrev pub invariant-loop-j : goal.invariant-loop-j
invariant-loop-j g l =
    let number = g.B.BitBlock.number in
    l.ones ≡ merged_ones g.O.Operation.merge g.B.BitBlock.width (map number l.blocks) (map number l.others) l.start (l.start + l.j)
