use Rattle.std.proofs.Common.{◌≡◌, take}
use Rattle.bit_set.specs.Sets.{bound_of}
use Rattle.bit_set_c.proofs.making.length_for.Given as goal

-- the bound of the numbers so far
abbrev pub invariant-loop-member : goal.invariant-loop-member
invariant-loop-member l = l.len ≡ bound_of (take l.member-index l.members)
