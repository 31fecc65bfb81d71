use Rattle.std.proofs.Common.{◌≡◌, ℕ, ◌+◌, ◌-◌, count_ones, subst, ap, ◌∙◌, arith}
use Rattle.bit_blocks.{specs.Highest.IsHighest, proofs.{HighestLemmas.{filled_at_first, filled_more, filled_whole, highest_found, highest_within}, LowestLemmas.ones_below}}
use Rattle.bit_blocks.proofs.block.BitBlock.highest_one.{Given.Over, Goals.After-count_ones}
use Rattle.bit_blocks.proofs.block.BitBlock.highest_one.Goals as goal

pub loop-distance-init : goal.loop-distance-init
loop-distance-init g c = record {
  of_block = c.requires.of_block;
  onward = omega arith;
  filled = λ i high. filled_at_first _ i high;
}

pub bitor-filled-requires : goal.bitor-filled-requires
bitor-filled-requires g c = g.met.Self.BitBlock.can_or c.loop-distance.filled c.shift_right.result c.loop-distance.invariant.of_block c.shift_right.ensures.of_block

pub loop-distance-preserved : goal.loop-distance-preserved
loop-distance-preserved g c =
    let law = g.met.Self.BitBlock in
    let before = c.loop-distance.invariant in
    let (of_block, digits) = law.or_law c.loop-distance.filled c.shift_right.result c.bitor-filled.result before.of_block c.shift_right.ensures.of_block c.bitor-filled.ensures in
    record {
      of_block = of_block;
      onward = omega (arith, c.saturating_add-distance.ensures, before.onward);
      filled = λ i high.
          filled_more _ i c.loop-distance.distance _ _ _ _
          (highest_within _ _ i (law.number_law c.args.self c.requires.of_block).0 high)
          (law.number_law c.bitor-filled.result of_block).0 (law.number_law c.loop-distance.filled before.of_block).0
          c.shift_right.ensures.of_digits digits (omega (arith, c.saturating_add-distance.ensures)) (before.filled i high);
    }

-- there is a highest 1, and with those filled in below it there is one more than its index
counted : (g : Over) (c : After-count_ones g) → (i : ℕ) × IsHighest (g.Self.BitBlock.number c.args.self) i × (c.count_ones.result ≡ i + 1)
counted g c =
    let law = g.met.Self.BitBlock in
    let filled = c.loop-distance.filled in
    let high = highest_found g.Self.BitBlock.width (g.Self.BitBlock.number c.args.self) c.requires.not_zero (law.number_law c.args.self c.requires.of_block).0 in
    let i : ℕ = high.0 in
    let whole = filled_whole _ i c.loop-distance.distance _
    (highest_within _ _ i (law.number_law c.args.self c.requires.of_block).0 high.1)
    (law.number_law filled c.loop-distance.invariant.of_block).0 (omega (arith, c.loop-distance-test.false, c.bits.ensures))
    (c.loop-distance.invariant.filled i high.1) in
    (i, high.1, c.count_ones.ensures ∙ ap count_ones whole ∙ ones_below (i + 1))

pub overflow_sub-result : goal.overflow_sub-result
overflow_sub-result g c = let all = counted g (goal.at.overflow_sub-result g c).After-count_ones in omega (arith, all.2)

pub returns : goal.returns
returns g c =
    let all = counted g (goal.at.returns g c).After-count_ones in
    let index : all.0 ≡ c.count_ones.result - 1 = omega (arith, all.2) in
    record {
      within = let below = highest_within _ _ all.0 (g.met.Self.BitBlock.number_law c.args.self c.requires.of_block).0 all.1 in omega (arith, below, index);
      highest = subst (IsHighest (g.Self.BitBlock.number c.args.self)) index all.1;
    }
