use Rattle.std.proofs.Common.{◌≡◌, refl, arith}
use Rattle.bit_matrix.proofs.{SquareLemmas.written_on, TransposeLemmas.{all_pairs, next_square, no_pairs, pair_more}}
use Rattle.bit_matrix.proofs.squares.transpose_groups.Goals as goal

pub loop-b-init : goal.loop-b-init
loop-b-init g c = record { pairs = no_pairs _ _ _ _ _; written = record { each = c.requires.strip.each; len = refl } }

pub loop-a-preserved : goal.loop-a-preserved
loop-a-preserved g c = record {
  pairs = pair_more _ _ _ _ c.loop-b.b c.loop-a.a _ _ _ c.loop-a-test.true c.loop-b-test.true c.loop-a.invariant.pairs c.exchange_squares.ensures.exchanged;
  written = written_on _ _ _ _ c.loop-a.invariant.written c.exchange_squares.ensures.written;
}

pub loop-b-preserved : goal.loop-b-preserved
loop-b-preserved g c =
    let last : c.loop-a.a ≡ c.loop-b.b = omega (arith, c.loop-a-test.false, c.loop-a.auto.a-end) in
    record {
      pairs = next_square _ _ _ _ c.loop-b.b _ _ (rw last at c.loop-a.invariant.pairs);
      written = c.loop-a.invariant.written;
    }

pub returns-clause-exchanged : goal.returns-clause-exchanged
returns-clause-exchanged g c =
    let last : c.loop-b.b ≡ c.args.count = omega (arith, c.loop-b-test.false, c.loop-b.auto.b-end) in
    all_pairs _ _ _ _ _ _ (rw last at c.loop-b.invariant.pairs)
