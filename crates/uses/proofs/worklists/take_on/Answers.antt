use Rattle.std.proofs.{Common.{◌∙◌, ap, sym, refl, not, arith}, lemmas.Bool.Decides.nat_tests}
use Rattle.uses.proofs.worklists.take_on.Goals as goal

pub returns-then-is_subset-clause-set : goal.returns-then-is_subset-clause-set
returns-then-is_subset-clause-set g c = let within = c.if-is_subset.ensures.members.0 refl in λ x. grind (arith, nat_tests, within x)

pub returns-then-is_subset-clause-pending : goal.returns-then-is_subset-clause-pending
returns-then-is_subset-clause-pending g c = let within = c.if-is_subset.ensures.members.0 refl in λ x. grind (arith, nat_tests, within x)

pub returns-clause-set : goal.returns-clause-set
returns-clause-set g c = c.in_ok-union_changes.ensures.members

pub returns-clause-pending : goal.returns-clause-pending
returns-clause-pending g c = c.in_ok-union_with_difference.ensures.members

pub returns-clause-count : goal.returns-clause-count
returns-clause-count g c =
    let grew = c.in_ok-union_changes.ensures.were_in ∙ ap not (sym c.if-is_subset.ensures.returned) in
    let count = rw grew at c.in_ok-union_changes.ensures.count in
    omega (arith, count, c.few.ensures, c.few-2.ensures)
