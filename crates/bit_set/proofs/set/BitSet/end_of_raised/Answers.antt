use Rattle.std.proofs.Common.{ap, sym, refl, ◌∙◌, arith}
use Rattle.set_algebra.specs.Sets.{bound_of, elements}
use Rattle.set_algebra.proofs.{MemberLemmas.none_from_members, MovedLemmas.{bound-raised, none_raised}}
use Rattle.bit_set.proofs.set.BitSet.end_of_raised.Goals as goal

pub returns-in_default-clause-ok : goal.returns-in_default-clause-ok
returns-in_default-clause-ok g c =
    let none = c.in_default.ensures.members in
    sym (ap bound_of (none_raised c.args.distance (elements c.args.self.now.values) none) ∙ ap bound_of (none_from_members (elements c.args.self.now.values) none))

pub returns-then-top-clause-err : goal.returns-then-top-clause-err
returns-then-top-clause-err g c =
    let bound = bound-raised c.args.distance (elements c.args.self.now.values) c.in-Some.last c.in-Some.ensures.members in
    (refl, omega (arith, bound, c.if-top.true, c.saturating_add-top.ensures))

pub returns-clause-ok : goal.returns-clause-ok
returns-clause-ok g c =
    let bound = bound-raised c.args.distance (elements c.args.self.now.values) c.in-Some.last c.in-Some.ensures.members in
    omega (arith, bound, c.if-top.false, c.saturating_add-top.ensures)
