use Rattle.std.{specs.List.list_any, proofs.Common.{◌≡◌, ℕ, take}}
use Rattle.bit_set.specs.Sets.{elements, has}
use Rattle.uses.proofs.merging.union_of_all.Given as goal

abbrev pub invariant-loop-one : goal.invariant-loop-one
invariant-loop-one g l = (x : ℕ) → has (elements l.all.values) x ≡ list_any (λ one. has (elements one.values) x) (take l.one-index l.sets)
