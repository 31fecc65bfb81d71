use Rattle.std.{proofs.Common.{◌≡◌, All, subst}, specs.Prelude.IfSome}
use Rattle.bit_set.proofs.{PairLemmas.{both_pulled_if, same_pulls_if, All-next_if}, walk.merged_blocks.Pairs.pull_if.Goals.After-next_if-2}
use Rattle.bit_set.proofs.walk.merged_blocks.Pairs.pull_if.Goals as goal

pub of_blocks-requires-clause-left : goal.of_blocks-requires-clause-left
of_blocks-requires-clause-left g c = subst (λ o. IfSome o g.B.BitBlock.is_block) c.in-Some-Some.is-0 (All-next_if _ _ _ _ _ _ c.self.invariant.0 c.next_if.ensures).0

pub of_blocks-requires-clause-right : goal.of_blocks-requires-clause-right
of_blocks-requires-clause-right g c = subst (λ o. IfSome o g.B.BitBlock.is_block) c.in-Some-Some.is-1 (All-next_if _ _ _ _ _ _ c.self.invariant.1 c.next_if-2.ensures).0

pub returns-clause-steps : goal.returns-clause-steps
returns-clause-steps g c =
    rw (← c.self.view_is) (both_pulled_if _ _ _ _ _ _ _ _ _ _ _ _ _ _ c.in-Some-Some.is-0 c.in-Some-Some.is-1 c.next_if.ensures c.next_if-2.ensures (record { digit = c.of_blocks.ensures.digits }))

sound : (g : _) (c : After-next_if-2 g) → (All g.B.BitBlock.is_block c.next_if.new.self.left)
    × (All g.B.BitBlock.is_block c.next_if-2.new.self.left) × (c.next_if-2.new.self.pulls ≡ c.next_if.new.self.pulls)
sound g c = (
  (All-next_if _ _ _ _ _ _ c.self.invariant.0 c.next_if.ensures).1,
  (All-next_if _ _ _ _ _ _ c.self.invariant.1 c.next_if-2.ensures).1,
  same_pulls_if _ _ _ _ _ _ _ _ _ c.next_if.ensures c.next_if-2.ensures c.self.invariant.2,
)

pub invariant_of-self : goal.invariant_of-self
invariant_of-self g c = sound g (goal.at.invariant_of-self g c).After-next_if-2

pub invariant_of-self-2 : goal.invariant_of-self-2
invariant_of-self-2 g c = sound g (goal.at.invariant_of-self-2 g c).After-next_if-2
