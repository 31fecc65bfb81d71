use Rattle.std.proofs.Common.{length, ap, arith}
use Rattle.bit_blocks.specs.Searches.{FindsFrom}
use Rattle.set_algebra.{specs.Sets.{elements, has}, proofs.{EndLemmas.{finds_members, first_of_those, found_within, least_of_all}, SetLemmas.IsAscending-elements, SplitLemmas.all_from}}
use Rattle.bit_set.proofs.set.BitSet.first.{Given.Over, Goals.After-first_one}
use Rattle.bit_set.proofs.set.BitSet.first.Goals as goal

found : (g : Over) (c : After-first_one g) → FindsFrom (has (elements c.args.self.now.values)) 0 c.first_one.result
found g c = rw (← c.self.view_is) (finds_members c.self.inside.bits.values 0 _ c.first_one.ensures)

pub returns-clause-elements : goal.returns-clause-elements
returns-clause-elements g c =
    rw (all_from c.args.self.now.values)
    (first_of_those (elements c.args.self.now.values) 0 _ (IsAscending-elements c.args.self.now.values) (found g (goal.at.returns-clause-elements g c).After-first_one))

pub returns-clause-members : goal.returns-clause-members
returns-clause-members g c = least_of_all (elements c.args.self.now.values) _ (found g (goal.at.returns-clause-members g c).After-first_one)

pub returns-clause-within : goal.returns-clause-within
returns-clause-within g c =
    found_within c.args.self.now.values 0 _ (omega (arith, ap (λ v. length v.values) c.self.view_is, c.len.ensures.value, c.if-prove.false))
    (found g (goal.at.returns-clause-within g c).After-first_one)
