use Rattle.std.proofs.Common.{◌-◌, length, rules}
use Rattle.set_algebra.{proofs.{AlgebraLemmas.{elements-lengthened, length-lengthened}, MemberLemmas.members_merged}, specs.Sets.elements}
use Rattle.bit_set.proofs.set.BitSet.merge_with.Goals as goal

pub returns-clause-elements : goal.returns-clause-elements
returns-clause-elements g c =
    let values = c.args.self.now.values in
    rw (c.merge.ensures.values, c.self.view_is, c.in_ok-lengthen.ensures.ok, c.other.view_is)
    (elements-lengthened c.args.merge values c.args.other.now.values (c.len.result - length values))

pub returns-clause-grows : goal.returns-clause-grows
returns-clause-grows g c = record {
  long = rw (c.merge.ensures.values, c.self.view_is, c.in_ok-lengthen.ensures.ok, c.len.ensures.value, c.other.view_is)
      (length-lengthened c.args.merge c.args.self.now.values c.args.other.now.values);
  grows = search rules;
}

pub returns-clause-members : goal.returns-clause-members
returns-clause-members g c = members_merged c.args.merge (elements c.args.self.now.values) (elements c.args.other.now.values) (elements c.merge.new.self.values) (returns-clause-elements g c)
