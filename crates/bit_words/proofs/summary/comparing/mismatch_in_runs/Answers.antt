use Rattle.std.proofs.Common.{◌*◌, ◌≤◌, length, arith, mul-le-mul_right}
use Rattle.bit_words.proofs.summary.comparing.mismatch_in_runs.Goals as goal

pub returns : goal.returns
returns g c = λ k below.
    let w = g.B.BitBlock.width in
    let end : length c.args.summary.now * w ≤ c.loop-q.q * w = mul-le-mul_right w (omega (arith, c.loop-q-test.false)) in
    c.loop-q.invariant.same k (omega (arith, end, below))
