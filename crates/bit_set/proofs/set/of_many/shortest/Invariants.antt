use Rattle.std.{proofs.Common.{◌≡◌, min, length, take}, specs.List.fold}
use Rattle.bit_set.proofs.set.of_many.shortest.Given as goal

-- the least length so far
abbrev pub invariant-loop-set : goal.invariant-loop-set
invariant-loop-set g l = l.least ≡ fold (λ least set. min least (length set.values)) l.initial.least
    (take l.set-index l.rest)
