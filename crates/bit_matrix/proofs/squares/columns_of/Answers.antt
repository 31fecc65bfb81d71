use Rattle.std.proofs.Common.{◌/◌, ◌%◌, ◌==◌, arith}
use Rattle.bit_matrix.proofs.SquareLemmas.{digit_put, none_put}
use Rattle.bit_matrix.proofs.squares.columns_of.Goals as goal

pub with_one_if-columns-requires-clause-clear : goal.with_one_if-columns-requires-clause-clear
with_one_if-columns-requires-clause-clear g c =
    none_put g.B.BitBlock.width c.loop-c.c _ (λ j. j / c.args.size % c.args.count == c.args.square) c.loop-c.invariant.digits (omega (arith, c.loop-c-test.true, c.bits-c-end.ensures))

pub loop-c-preserved : goal.loop-c-preserved
loop-c-preserved g c = record {
  of_block = c.with_one_if-columns.ensures.of_block;
  digits = digit_put g.B.BitBlock.width c.loop-c.c _ _
      (λ j. j / c.args.size % c.args.count == c.args.square) c.loop-c.invariant.digits
      (omega (arith, c.loop-c-test.true, c.bits-c-end.ensures)) c.with_one_if-columns.ensures.same
      c.with_one_if-columns.ensures.others;
}
