use Rattle.std.proofs.{Common.{◌≡◌, ◌+◌, ◌-◌, Bool, true, false, not, ◌==◌, ◌∷◌, if◌then◌else◌, length, refl, sym, ap, subst, ◌∙◌, arith}, lemmas.{Bool.eqb-false, Option.get_or_from_slice_get}}
use Rattle.bit_blocks.{specs.Bits.blocks_for, proofs.BitsLemmas.blocks_for-least}
use Rattle.bit_words.{specs.Pending.{left_from, next_at}, proofs.bit_vec.nonzero.Nonzero.take_first.{Given.Over, Goals.After-at-block}}
use Rattle.bit_words.proofs.bit_vec.nonzero.Nonzero.take_first.Goals as goal

turned : (b c : Bool) → not b ≡ c → b ≡ not c
turned true c e = ap not e
turned false c e = ap not e

-- what was read is a block
lawful : (g : Over) (c : After-at-block g) → g.B.BitBlock.is_block c.at-block.result
lawful g c =
    let x = c.at-block.result in
    let k = c.in-Some.k in
    subst g.B.BitBlock.is_block (get_or_from_slice_get c.loop-k.self-inside.blocks.now k x x c.at-block.ensures)
    (c.loop-k.invariant.walk.hand.each k x (omega (arith, c.in-Some.ensures.found.inside, c.in-Some.ensures.walk.hand.ends)))

-- what is pulled of the summary came out of it
kept : (g : Over) (c : After-at-block g) →
    let w = g.B.BitBlock.width in
    let old = c.loop-k.self-inside.pending in
    let new = c.next_block.new.self in
    new.summary.pulls + blocks_for w (new.end - (new.index + w)) ≡ old.summary.pulls + blocks_for w (old.end - (old.index + w))
kept g c =
    let w = g.B.BitBlock.width in
    let old = c.loop-k.self-inside.pending in
    c.in-Some.ensures.found.summary ∙ ap (λ end. old.summary.pulls + blocks_for w (end - (old.index + w))) c.in-Some.ensures.end

-- it comes, or is 0
item : (g : Over) (c : After-at-block g) (zero : Bool) → (g.B.BitBlock.number c.at-block.result == 0) ≡ zero
    → c.args.self.now.left
    ≡ (if zero then left_from g.B.BitBlock.number
    (next_at g.B.BitBlock.width c.next_block.new.self.index
    (g.B.BitBlock.number c.next_block.new.self.bits)) c.next_block.new.self.end c.loop-k.self-inside.blocks.now
    else (c.in-Some.k, c.at-block.result) ∷ left_from g.B.BitBlock.number
    (next_at g.B.BitBlock.width c.next_block.new.self.index (g.B.BitBlock.number c.next_block.new.self.bits)) c.next_block.new.self.end c.loop-k.self-inside.blocks.now)
item g c zero test =
    let rest = left_from g.B.BitBlock.number
    (next_at g.B.BitBlock.width c.next_block.new.self.index (g.B.BitBlock.number c.next_block.new.self.bits)) c.next_block.new.self.end c.loop-k.self-inside.blocks.now in
    let it = c.loop-k.self-inside.pending in
    sym c.loop-k.invariant.same
    ∙ ap (λ end. left_from g.B.BitBlock.number (next_at g.B.BitBlock.width it.index (g.B.BitBlock.number it.bits)) end c.loop-k.self-inside.blocks.now) (sym c.in-Some.ensures.end)
    ∙ c.in-Some.ensures.found.item c.at-block.result c.at-block.ensures
    ∙ ap (λ b. if b then rest else (c.in-Some.k, c.at-block.result) ∷ rest) test

pub loop-k-init : goal.loop-k-init
loop-k-init g c =
    let is = c.self.view_is in
    let pulls = ap (λ v. v.pulls) is in
    let sums = ap (λ v. v.summary_pulls) is in
    let left = ap (λ v. v.summary_left) is in
    record {
      walk = c.self.invariant;
      same = ap (λ v. v.left) is;
      kept = ap (λ v. v.blocks) is;
      counted = pulls;
      pulled = omega (arith, sums, left);
      goes_on = omega (arith, sums);
    }

pub next_block-requires : goal.next_block-requires
next_block-requires g c = record { walk = c.loop-k.invariant.walk }

pub is_nonzero-requires : goal.is_nonzero-requires
is_nonzero-requires g c = lawful g (goal.at.is_nonzero-requires g c).After-at-block

pub returns-then-is_nonzero-clause-steps : goal.returns-then-is_nonzero-clause-steps
returns-then-is_nonzero-clause-steps g c =
    let before = c.loop-k.invariant in
    record {
      item = item g (goal.at.returns-then-is_nonzero-clause-steps g c).After-at-block false (turned _ _ (sym c.is_nonzero.ensures ∙ c.if-is_nonzero.true));
      same = before.kept;
      counted = omega (arith, before.counted, c.tick.ensures);
      goes_on = omega (arith, before.goes_on, c.in-Some.ensures.found.goes_on);
      summary = omega (arith, before.pulled, kept g (goal.at.returns-then-is_nonzero-clause-steps g c).After-at-block);
      ended = tt;
    }

pub returns-then-is_nonzero-clause-found : goal.returns-then-is_nonzero-clause-found
returns-then-is_nonzero-clause-found g c =
    let blocks = ap length c.loop-k.invariant.kept in
    let some = eqb-false _ _ (turned _ _ (sym c.is_nonzero.ensures ∙ c.if-is_nonzero.true)) in
    (omega (arith, blocks, c.in-Some.ensures.found.inside, c.in-Some.ensures.walk.hand.ends), lawful g (goal.at.returns-then-is_nonzero-clause-found g c).After-at-block, omega (arith, some))

pub loop-k-smaller : goal.loop-k-smaller
loop-k-smaller g c = let step = c.in-Some.ensures.found in omega (arith, step.onward, step.inside, c.in-Some.ensures.end)

pub loop-k-preserved : goal.loop-k-preserved
loop-k-preserved g c =
    let before = c.loop-k.invariant in
    record {
      walk = c.in-Some.ensures.walk;
      same = sym (item g (goal.at.loop-k-preserved g c).After-at-block true (turned _ _ (sym c.is_nonzero.ensures ∙ c.if-is_nonzero.false)));
      kept = before.kept;
      counted = before.counted;
      pulled = omega (arith, before.pulled, kept g (goal.at.loop-k-preserved g c).After-at-block);
      goes_on = omega (arith, before.goes_on, c.in-Some.ensures.found.goes_on);
    }

pub returns-clause-steps : goal.returns-clause-steps
returns-clause-steps g c =
    let w = g.B.BitBlock.width in
    let number = g.B.BitBlock.number in
    let before = c.loop-k.invariant in
    let it = c.loop-k.self-inside.pending in
    let xs = c.loop-k.self-inside.blocks.now in
    let step = c.in_default.ensures.found in
    let (none_before, none_left, past) = step.ended refl in
    let count = ap (λ end. it.summary.pulls + blocks_for w (end - (it.index + w))) c.in_default.ensures.end in
    record {
      item = (sym before.same ∙ ap (λ end. left_from number (next_at w it.index (number it.bits)) end xs) (sym c.in_default.ensures.end) ∙ none_before, none_left);
      same = before.kept;
      counted = before.counted;
      goes_on = omega (arith, before.goes_on, step.goes_on);
      summary = omega (arith, before.pulled, step.summary, count);
      ended =
          let none = blocks_for-least w (c.next_block.new.self.end - (c.next_block.new.self.index + w)) 0 g.met.B.BitBlock.width_law.positive (omega (arith, past)) in
          omega (arith, none);
    }
