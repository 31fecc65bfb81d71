use Rattle.std.proofs.Common.{◌≡◌, ℕ, ◌+◌, ◌-◌, ◌≤◌, Bool, true, false, not, ◌==◌, [], ◌∷◌, ◌++◌, if◌then◌else◌, length, refl, sym, ap, subst, ◌∙◌, arith}
use Rattle.std.proofs.lemmas.{Bool.eqb-false, Option.get_or_from_slice_get}
use Rattle.bit_blocks.{specs.Bits.blocks_for, proofs.BitsLemmas.blocks_for-le}
use Rattle.bit_words.{specs.Pending.{left_from, next_at}, proofs.bit_vec.nonzero.Nonzero.take_last.{Given.Over, Goals.After-at-block}}
use Rattle.bit_words.proofs.bit_vec.nonzero.Nonzero.take_last.Goals as goal

turned : (b c : Bool) → not b ≡ c → b ≡ not c
turned true c e = ap not e
turned false c e = ap not e

-- what was read is a block
lawful : (g : Over) (c : After-at-block g) → g.B.BitBlock.is_block c.at-block.result
lawful g c =
    let x = c.at-block.result in
    let k = c.in-Some.k in
    subst g.B.BitBlock.is_block (get_or_from_slice_get c.loop-k.self-inside.blocks.now k x x c.at-block.ensures)
    (c.loop-k.invariant.walk.hand.each k x (omega (arith, c.in-Some.ensures.found.inside, c.loop-k.invariant.walk.hand.ends)))

-- no more of the summary is to be pulled
fewer : (g : Over) (c : After-at-block g) → blocks_for g.B.BitBlock.width (c.last_block.new.self.end - (c.last_block.new.self.index + g.B.BitBlock.width)) ≤ c.args.self.now.summary_left
fewer g c =
    let w = g.B.BitBlock.width in
    let most = blocks_for-le w (c.last_block.new.self.end - (c.last_block.new.self.index + w))
    (c.loop-k.self-inside.pending.end - (c.loop-k.self-inside.pending.index + w)) g.met.B.BitBlock.width_law.positive
    (omega (arith, c.in-Some.ensures.found.fewer, c.in-Some.ensures.index)) in
    omega (arith, most, c.loop-k.invariant.fewer)

-- it comes, or is 0
item : (g : Over) (c : After-at-block g) (zero : Bool) → (g.B.BitBlock.number c.at-block.result == 0) ≡ zero →
    let rest = left_from g.B.BitBlock.number
    (next_at g.B.BitBlock.width c.last_block.new.self.index (g.B.BitBlock.number c.last_block.new.self.bits)) c.last_block.new.self.end c.loop-k.self-inside.blocks.now in
    c.args.self.now.left ≡ (if zero then rest else rest ++ (c.in-Some.k, c.at-block.result) ∷ [])
item g c zero test =
    let left = λ (index : ℕ). left_from g.B.BitBlock.number
    (next_at g.B.BitBlock.width index (g.B.BitBlock.number c.last_block.new.self.bits)) c.last_block.new.self.end c.loop-k.self-inside.blocks.now in
    sym c.loop-k.invariant.same
    ∙ c.in-Some.ensures.found.item c.at-block.result c.at-block.ensures
    ∙ ap (λ b. if b then left c.loop-k.self-inside.pending.index else left c.loop-k.self-inside.pending.index ++ (c.in-Some.k, c.at-block.result) ∷ []) test
    ∙ ap (λ index. if zero then left index else left index ++ (c.in-Some.k, c.at-block.result) ∷ []) (sym c.in-Some.ensures.index)

pub loop-k-init : goal.loop-k-init
loop-k-init g c =
    let is = c.self.view_is in
    let left = ap (λ v. v.summary_left) is in
    record {
      walk = c.self.invariant;
      same = ap (λ v. v.left) is;
      kept = ap (λ v. v.blocks) is;
      counted = ap (λ v. v.pulls) is;
      pulled = ap (λ v. v.summary_pulls) is;
      fewer = omega (arith, left);
    }

pub last_block-requires : goal.last_block-requires
last_block-requires g c = record { walk = c.loop-k.invariant.walk }

pub is_nonzero-requires : goal.is_nonzero-requires
is_nonzero-requires g c = lawful g (goal.at.is_nonzero-requires g c).After-at-block

pub returns-then-is_nonzero-clause-steps : goal.returns-then-is_nonzero-clause-steps
returns-then-is_nonzero-clause-steps g c =
    let before = c.loop-k.invariant in
    record {
      item = item g (goal.at.returns-then-is_nonzero-clause-steps g c).After-at-block false (turned _ _ (sym c.is_nonzero.ensures ∙ c.if-is_nonzero.true));
      same = before.kept;
      counted = omega (arith, before.counted, c.tick.ensures);
      summary = c.in-Some.ensures.pulls ∙ before.pulled;
      summary_left = fewer g (goal.at.returns-then-is_nonzero-clause-steps g c).After-at-block;
    }

pub returns-then-is_nonzero-clause-found : goal.returns-then-is_nonzero-clause-found
returns-then-is_nonzero-clause-found g c =
    let blocks = ap length c.loop-k.invariant.kept in
    let some = eqb-false _ _ (turned _ _ (sym c.is_nonzero.ensures ∙ c.if-is_nonzero.true)) in
    (omega (arith, blocks, c.in-Some.ensures.found.inside, c.loop-k.invariant.walk.hand.ends), lawful g (goal.at.returns-then-is_nonzero-clause-found g c).After-at-block, omega (arith, some))

pub loop-k-smaller : goal.loop-k-smaller
loop-k-smaller g c = omega (arith, c.in-Some.ensures.found.inside)

pub loop-k-preserved : goal.loop-k-preserved
loop-k-preserved g c =
    let before = c.loop-k.invariant in
    record {
      walk = c.in-Some.ensures.walk;
      same = sym (item g (goal.at.loop-k-preserved g c).After-at-block true (turned _ _ (sym c.is_nonzero.ensures ∙ c.if-is_nonzero.false)));
      kept = before.kept;
      counted = before.counted;
      pulled = c.in-Some.ensures.pulls ∙ before.pulled;
      fewer = fewer g (goal.at.loop-k-preserved g c).After-at-block;
    }

pub returns-clause-steps : goal.returns-clause-steps
returns-clause-steps g c =
    let w = g.B.BitBlock.width in
    let before = c.loop-k.invariant in
    let (none_before, none_left, past) = c.in_default.ensures.found.ended refl in
    let left = λ (index : ℕ). left_from g.B.BitBlock.number (next_at w index (g.B.BitBlock.number c.last_block.new.self.bits)) c.last_block.new.self.end c.loop-k.self-inside.blocks.now in
    record {
      item = (sym before.same ∙ none_before, ap left c.in_default.ensures.index ∙ none_left);
      same = before.kept;
      counted = before.counted;
      summary = c.in_default.ensures.pulls ∙ before.pulled;
      summary_left =
          let most = blocks_for-le w (c.last_block.new.self.end - (c.last_block.new.self.index + w))
          (c.loop-k.self-inside.pending.end - (c.loop-k.self-inside.pending.index + w)) g.met.B.BitBlock.width_law.positive
          (omega (arith, c.in_default.ensures.found.fewer, c.in_default.ensures.index)) in
          omega (arith, most, before.fewer);
    }
