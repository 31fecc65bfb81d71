use Rattle.std.proofs.Common.{ℕ, ◌-◌, ◌^◌, ◌<◌}
use Rattle.free_slots.specs.Slots.{IsFreeRun}
use Rattle.free_slots.proofs.Slots.lowest_run.Given as goal

-- no so many begin below the number
abbrev pub invariant-loop-first : goal.invariant-loop-first
invariant-loop-first g l = (other : ℕ) → other < l.from → IsFreeRun l.self l.count other → ⊥

abbrev pub decreases-loop-first : goal.decreases-loop-first
decreases-loop-first g l = 2 ^ 64 - l.from
