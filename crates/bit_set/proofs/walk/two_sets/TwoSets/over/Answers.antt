use Rattle.std.{proofs.Common.{◌-◌, refl, ap, ◌∙◌, arith}, specs.Option.unwrap_or}
use Rattle.set_algebra.{specs.Sets.elements, proofs.MemberLemmas.members_merged}
use Rattle.bit_set.{specs.Walk.IsAtFirstBlocks, proofs.{WalkLemmas.{IsBegun, begun}, walk.two_sets.TwoSets.over.Goals.After-zero}}
use Rattle.bit_set.proofs.walk.two_sets.TwoSets.over.Goals as goal

at_start : (g : _) (c : After-zero g) →
    let first = unwrap_or c.pull_with_kind-pulled.result.0 c.zero.result in
    IsBegun (g.B.BitBlock.is_block first) g.B.BitBlock.width (g.B.BitBlock.number first) c.over-source.result c.pull_with_kind-pulled.new.self
at_start g c =
    let pulled = c.pull_with_kind-pulled.ensures in
    begun g.B.BitBlock.is_block g.B.BitBlock.width g.B.BitBlock.number c.zero.result _ _ _ c.over-source.ensures.can pulled.steps pulled.given c.zero.ensures.of_block c.zero.ensures.of_number

pub invariant_of-result : goal.invariant_of-result
invariant_of-result g c = rw c.unwrap_or-block.ensures (at_start g (goal.at.invariant_of-result g c).After-zero).walk

pub returns-clause-left : goal.returns-clause-left
returns-clause-left g c = rw c.unwrap_or-block.ensures ((at_start g (goal.at.returns-clause-left g c).After-zero).all ∙ rw (c.get_ref.ensures, c.get_ref-2.ensures) at c.over-source.ensures.values)

pub returns-clause-members : goal.returns-clause-members
returns-clause-members g c = members_merged g.O.Operation.merge (elements c.args.first.now.values) (elements c.args.second.now.values) _ (returns-clause-left g c)

pub returns-clause-start : goal.returns-clause-start
unfolding IsAtFirstBlocks
returns-clause-start g c =
    let at = at_start g (goal.at.returns-clause-start g c).After-zero in
    rw c.unwrap_or-block.ensures (record {
      count_fits = at.walk.can.count_fits;
      at = record {
        pulls = omega (arith, c.pull_with_kind-pulled.ensures.steps.counted, c.over-source.ensures.pulls);
        index = refl;
        blocks = at.past ∙ ap (λ n. n - 1) (rw (c.get_ref.ensures, c.get_ref-2.ensures) at c.over-source.ensures.blocks);
      };
    })
