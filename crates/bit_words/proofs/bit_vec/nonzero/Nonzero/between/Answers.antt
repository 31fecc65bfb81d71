use Rattle.std.proofs.Common.{◌≡◌, ◌+◌, ◌-◌, ◌/◌, ◌<◌, ◌++◌, All, drop, length, min, take_all, refl, sym, ap, ap₂, subst, ◌∙◌, arith}
use Rattle.std.proofs.lemmas.{Bool.Decides.nat_tests, List.Elements.All-get_or, Option.{get_or_from_slice_get, slice_get_within}}
use Rattle.bit_blocks.{specs.Bits.blocks_for, proofs.{BitsLemmas.blocks_for-le, UseLemmas.packed_blocks, VectorLemmas.length_from_view}}
use Rattle.bit_words.specs.{Nonzero.nonzero_from, Pending.{left_from, next_at}}
use Rattle.bit_words.proofs.{CutLemmas.{IsSplitAt, split-with, split-without}, GrowthLemmas.stored_within_capacity, LastLemmas.{IsPending-cut_at, left-cut_at}, PendingLemmas.summary_left-cut}
use Rattle.bit_words.proofs.bit_vec.nonzero.Nonzero.between.Goals.{After-keep_before, then-may_have, else-may_have, then-is_nonzero, else-is_nonzero}
use Rattle.bit_words.proofs.bit_vec.nonzero.Nonzero.between.Goals as goal

-- what is left before the last block, of it and past it
parts : (g : _) (c : After-keep_before g)
    → IsSplitAt g.B.BitBlock.number (next_at g.B.BitBlock.width c.after-pending.result.index
    (g.B.BitBlock.number c.after-pending.result.bits)) c.args.last c.after-pending.result.end c.min-end.result
    (g.B.BitBlock.number c.if-may_have.whole) c.as_slice-blocks.result.now
parts g c =
    let w = g.B.BitBlock.width in
    let number = g.B.BitBlock.number in
    let it = c.after-pending.result in
    let is = c.after-pending.ensures.walk.hand in
    let to = c.min-end.ensures ∙ ap (λ n. min n it.end) c.max.ensures in
    elim c.if-may_have.branch [
      | then-may_have b ↦ rw b.whole-is
          (split-with number w g.B.BitBlock.is_block it.index it.end c.args.last c.min-end.result b.at-whole.result it.bits
          c.as_slice-blocks.result.now is to (grind (arith, c.may_have.ensures.left, b.if-may_have.true)) b.at-whole.ensures)
      | else-may_have b ↦ rw (b.whole-is, b.zero-whole.ensures.of_number)
          (split-without number w g.B.BitBlock.is_block it.index it.end c.args.last c.min-end.result it.bits c.as_slice-blocks.result.now is to (c.may_have.ensures.out b.if-may_have.false))
    ]

pub after-pending-requires-clause-inside : goal.after-pending-requires-clause-inside
after-pending-requires-clause-inside g c =
    let count = ap length c.as_slice-blocks.ensures.value ∙ c.bits.invariant.packed.count ∙ ap (blocks_for g.B.BitBlock.width) (sym (length_from_view _ _ _ _ _ c.bits.view_is)) in
    omega (arith, count, c.requires.inside)

pub clear_from-block-requires : goal.clear_from-block-requires
clear_from-block-requires g c =
    let is_block = g.B.BitBlock.is_block in
    let xs = c.as_slice-blocks.result.now in
    elim c.if-may_have.branch [
      | then-may_have b ↦
          let x = b.at-whole.result in
          let at = b.at-whole.ensures in
          let each = All-get_or is_block xs c.args.last x (slice_get_within xs c.args.last x at) c.after-pending.ensures.walk.hand.each in
          subst is_block (get_or_from_slice_get xs c.args.last x x at ∙ sym b.whole-is) each
      | else-may_have b ↦ subst is_block (sym b.whole-is) b.zero-whole.ensures.of_block
    ]

-- what is left is what was before the last block
same : (g : _) (c : After-keep_before g)
    → left_from g.B.BitBlock.number (next_at g.B.BitBlock.width c.keep_before.new.self.index (g.B.BitBlock.number c.keep_before.new.self.bits)) c.keep_before.new.self.end c.as_slice-blocks.result.now
    ≡ left_from g.B.BitBlock.number (next_at g.B.BitBlock.width c.after-pending.result.index (g.B.BitBlock.number c.after-pending.result.bits)) c.min-end.result c.as_slice-blocks.result.now
same g c =
    let w = g.B.BitBlock.width in
    let number = g.B.BitBlock.number in
    let it = c.after-pending.result in
    ap₂ (λ index end. left_from number (next_at w index (number c.keep_before.new.self.bits)) end c.as_slice-blocks.result.now) c.keep_before.ensures.index c.keep_before.ensures.end
    ∙ left-cut_at w number g.B.BitBlock.is_block it.index it.end c.min-end.result it.bits c.keep_before.new.self.bits c.as_slice-blocks.result.now c.after-pending.ensures.walk.hand
    (omega (arith, c.min-end.ensures)) c.keep_before.ensures.digits

pub returns-clause-blocks : goal.returns-clause-blocks
returns-clause-blocks g c =
    rw (c.as_slice-blocks.ensures.value, ← c.bits.view_is) (packed_blocks _ _ _ _ _ g.met.B.BitBlock.width_law.positive (λ x is. (g.met.B.BitBlock.number_law x is).0) c.bits.invariant.packed)

pub returns-clause-fits : goal.returns-clause-fits
returns-clause-fits g c = stored_within_capacity _ _ _ _ _ _ _ _ _ g.met.B.BitBlock.width_law.positive c.bits.invariant (omega arith) (omega arith) c.bits.view_is

pub returns-clause-summary : goal.returns-clause-summary
returns-clause-summary g c =
    let made = c.after-pending.ensures in
    let new = c.keep_before.new.self in
    summary_left-cut g.B.BitBlock.width (c.args.first / g.B.BitBlock.width) c.args.last new.index new.end g.met.B.BitBlock.width_law.positive (c.keep_before.ensures.index ∙ made.index)
    (omega (arith, c.keep_before.ensures.end, c.min-end.ensures, c.max.ensures, c.keep_before.ensures.index))

pub returns-clause-cut : goal.returns-clause-cut
returns-clause-cut g c =
    let w = g.B.BitBlock.width in
    let number = g.B.BitBlock.number in
    let kept = (goal.at.returns-clause-cut g c).After-keep_before in
    let it = c.after-pending.result in
    let made = c.after-pending.ensures in
    let new = c.keep_before.new.self in
    let xs = c.as_slice-blocks.result.now in
    let next = c.args.first + 1 in
    let split = parts g kept in
    let left = same g kept in
    let all : nonzero_from number next (drop next xs) ≡ left_from number (next_at w it.index (number it.bits)) it.end xs =
    sym (made.left ∙ ap (λ n. left_from number next n xs) made.end ∙ ap (λ ys. nonzero_from number next (drop next ys)) (take_all (length xs) xs (omega arith))) in
    let before = ap (λ n. blocks_for w (n - (it.index + w))) made.end ∙ made.count in
    let most = blocks_for-le w (new.end - (new.index + w)) (it.end - (it.index + w)) g.met.B.BitBlock.width_law.positive
    (omega (arith, c.keep_before.ensures.end, c.keep_before.ensures.index, c.min-end.ensures)) in
    record {
      at = split.at;
      past = split.past;
      split = all ∙ split.split ∙ ap (λ ys. ys ++ (split.at ++ split.past)) (sym left);
      before = subst (All (λ entry. entry.0 < c.args.last)) (sym left) split.before;
      after = split.after;
      whole = number c.if-may_have.whole;
      entry = split.entry;
      digit = c.clear_from-block.ensures.digits;
      same = refl;
      counted = elim c.if-is_nonzero.branch [
        | then-is_nonzero b ↦ rw b.steps-is (grind (arith, nat_tests, c.is_nonzero.ensures, b.if-is_nonzero.true, b.tick-then-is_nonzero.ensures, c.tick.ensures, c.new-steps.ensures))
        | else-is_nonzero b ↦ rw b.steps-is (grind (arith, nat_tests, c.is_nonzero.ensures, b.if-is_nonzero.false, c.tick.ensures, c.new-steps.ensures))
      ];
      summary = c.keep_before.ensures.pulls ∙ made.pulls;
      summary_left = omega (arith, most, before);
    }

pub invariant_of-walk : goal.invariant_of-walk
invariant_of-walk g c =
    let it = c.after-pending.result in
    let walk = c.after-pending.ensures.walk in
    rw (c.keep_before.ensures.end, c.keep_before.ensures.index)
    (IsPending-cut_at g.B.BitBlock.width g.B.BitBlock.number g.B.BitBlock.is_block it.index it.end c.min-end.result it.bits
    c.keep_before.new.self.bits c.as_slice-blocks.result.now it.summary.left c.keep_before.new.self.summary.left
    g.met.B.BitBlock.width_law.positive
    (omega (arith, c.min-end.ensures, c.max.ensures, walk.hand.within)) (omega (arith, c.min-end.ensures))
    (record { before = walk; of_block = c.keep_before.ensures.of_block; cut = c.keep_before.ensures.digits; left = c.keep_before.ensures.stored }))
