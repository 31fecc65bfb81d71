use Rattle.std.proofs.Common.{◌≡◌, ◌+◌, ◌*◌, true, inl, inr, sym, ◌∙◌, ap₂}
use Rattle.bit_set.{specs.{Indexes.IsWalk, Walk.GoesOn}, proofs.{WalkLemmas.{seen_of_two, went_on}, walk.two_sets.TwoSets.advance_branchless.Goals.{After-bits, then-used_up, else-used_up}}}
use Rattle.bit_set.proofs.walk.two_sets.TwoSets.advance_branchless.Goals as goal

went : (g : _) (c : After-bits g) →
    let w = g.B.BitBlock.width in
    let number = g.B.BitBlock.number in
    let it = c.self.inside in
    let new = c.if-used_up.self in
    let at = it.index + c.from.result * c.bits.result in
    IsWalk (g.B.BitBlock.is_block new) w at (number new) c.pull_if.new.self × GoesOn w (seen_of_two w it.index (number it.block) it.source) (seen_of_two w at (number new) c.pull_if.new.self)
went g c =
    let it = c.self.inside in
    let zero : c.eq-used_up.result ≡ true → g.B.BitBlock.number it.block ≡ 0 =
    λ wanted. (g.met.B.BitBlock.eq_law it.block c.zero.result c.self.invariant.in_hand c.zero.ensures.of_block).0 (sym c.eq-used_up.ensures ∙ wanted) ∙ c.zero.ensures.of_number in
    went_on g.B.BitBlock.is_block g.B.BitBlock.width it.index _ g.B.BitBlock.number it.block c.if-used_up.self
    c.in-Some.next c.eq-used_up.result _ _ c.self.invariant c.in-Some.ensures.given zero c.in-Some.ensures.steps
    (elim c.if-used_up.branch [ then-used_up at ↦ inl (at.if-used_up.true, at.self-is) | else-used_up at ↦ inr (at.if-used_up.false, at.self-is) ])
    (ap₂ (λ k n. it.index + k * n) c.from.ensures c.bits.ensures)

pub invariant_of-self : goal.invariant_of-self
invariant_of-self g c = (went g (goal.at.invariant_of-self g c).After-bits).0

pub returns-after-used_up : goal.returns-after-used_up
returns-after-used_up g c = rw (← c.self.view_is) (went g (goal.at.returns-after-used_up g c).After-bits).1
