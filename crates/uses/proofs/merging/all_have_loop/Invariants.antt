use Rattle.std.{specs.List.list_all, proofs.Common.{◌≡◌, true, take}}
use Rattle.bit_set.specs.Sets.{elements, has}
use Rattle.uses.proofs.merging.all_have_loop.Given as goal

abbrev pub invariant-loop-one : goal.invariant-loop-one
invariant-loop-one g l = list_all (λ one. has (elements one.values) l.value) (take l.one-index l.sets) ≡ true
