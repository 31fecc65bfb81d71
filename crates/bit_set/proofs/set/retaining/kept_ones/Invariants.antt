use Rattle.std.proofs.Common.{◌^◌, ◌<◌, All, length}
use Rattle.bit_set.specs.Retained.{HasTested, ones}
use Rattle.bit_set.proofs.set.retaining.kept_ones.Given as goal

abbrev pub invariant-loop-rest : goal.invariant-loop-rest
invariant-loop-rest g l =
    let w = g.B.BitBlock.width in
    let rest = ones w l.index (g.B.BitBlock.number l.rest) in
    record {
      callable : goal.F-IsAlwaysCallable g l.keep;
      of_rest : g.B.BitBlock.is_block l.rest;
      of_kept : g.B.BitBlock.is_block l.kept;
      tested : HasTested (λ state value passed next. goal.F-step g state value passed next) l.fn.keep
          (ones w l.index (g.B.BitBlock.number l.fn.block)) l.keep (ones w l.index (g.B.BitBlock.number l.kept)) rest;
      fits : All (λ n. n < 2 ^ 64) rest;
    }

abbrev pub decreases-loop-rest : goal.decreases-loop-rest
decreases-loop-rest g l = length (ones g.B.BitBlock.width l.index (g.B.BitBlock.number l.rest))
