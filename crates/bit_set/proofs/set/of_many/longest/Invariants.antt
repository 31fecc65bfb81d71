use Rattle.std.{proofs.Common.{◌≡◌, max, length, take}, specs.List.fold}
use Rattle.bit_set.proofs.set.of_many.longest.Given as goal

-- the greatest length so far
abbrev pub invariant-loop-set : goal.invariant-loop-set
invariant-loop-set g l = l.most ≡ fold (λ most set. max most (length set.values)) 0 (take l.set-index l.sets)
