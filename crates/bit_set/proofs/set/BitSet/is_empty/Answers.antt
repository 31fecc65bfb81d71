use Rattle.set_algebra.{proofs.{ValueLemmas.empty_where_all_false, MemberLemmas.tells_empty}, specs.Sets.elements}
use Rattle.bit_set.proofs.set.BitSet.is_empty.Goals as goal

pub returns-clause-elements : goal.returns-clause-elements
returns-clause-elements g c =
    let both = empty_where_all_false c.self.inside.bits.values in
    rw (← c.self.view_is) (λ is. both.0 (c.none.ensures.0 is), λ none. c.none.ensures.1 (both.1 none))

pub returns-clause-members : goal.returns-clause-members
returns-clause-members g c = tells_empty c.none.result (elements c.args.self.now.values) (returns-clause-elements g c)
