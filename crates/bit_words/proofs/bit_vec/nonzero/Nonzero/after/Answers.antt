use Rattle.std.proofs.Common.{◌≡◌, ℕ, ◌+◌, ◌-◌, List, drop, length, take_all, refl, sym, ap, ◌∙◌, arith}
use Rattle.bit_blocks.{specs.Bits.blocks_for, proofs.{UseLemmas.packed_blocks, VectorLemmas.length_from_view}}
use Rattle.bit_words.{specs.{Nonzero.{Nonzeros, nonzero_from}, Pending.left_from}, proofs.GrowthLemmas.stored_within_capacity}
use Rattle.bit_words.proofs.bit_vec.nonzero.Nonzero.after.Goals as goal

-- the walk over these blocks that has these parts
abbrev walk_of : {X : Type 0} → List X → List (ℕ × X) → ℕ → ℕ → ℕ → Nonzeros X
walk_of xs left pulls summary_pulls summary_left = record { blocks = xs; left = left; pulls = pulls; summary_pulls = summary_pulls; summary_left = summary_left }

same_walks : {X : Type 0} (xs : List X) {l m : List (ℕ × X)} {a b c d e f : ℕ} → l ≡ m → a ≡ b → c ≡ d → e ≡ f → walk_of xs l a c e ≡ walk_of xs m b d f
same_walks xs p q r s = rw (p, q, r, s) refl

pub returns : goal.returns
returns g c = record {
  blocks =
      rw (c.as_slice-blocks.ensures.value, ← c.bits.view_is) (packed_blocks _ _ _ _ _ g.met.B.BitBlock.width_law.positive (λ x is. (g.met.B.BitBlock.number_law x is).0) c.bits.invariant.packed);
  each = rw c.as_slice-blocks.ensures.value c.bits.invariant.packed.each;
  start =
      let w = g.B.BitBlock.width in
      let number = g.B.BitBlock.number in
      let next = c.args.first + 1 in
      let xs = c.as_slice-blocks.result.now in
      let made = c.after-pending.ensures in
      same_walks xs
      (made.left ∙ ap (λ n. left_from number next n xs) made.end ∙ ap (λ ys. nonzero_from number next (drop next ys)) (take_all (length xs) xs (omega arith)))
      (omega (arith, c.tick.ensures, c.new-steps.ensures)) made.pulls
      (ap (λ n. blocks_for w (n - (c.after-pending.result.index + w))) made.end ∙ made.count);
  fits = stored_within_capacity _ _ _ _ _ _ _ _ _ g.met.B.BitBlock.width_law.positive c.bits.invariant (omega arith) (omega arith) c.bits.view_is;
}

pub after-pending-requires : goal.after-pending-requires
after-pending-requires g c = record {
  each = rw c.as_slice-blocks.ensures.value c.bits.invariant.packed.each;
  fits = omega (arith, c.as_slice-blocks.type_inv.0);
  summary = rw (c.as_slice-blocks.ensures.value, c.deref.ensures.value) c.bits.invariant.summary;
  inside =
      let count = ap length c.as_slice-blocks.ensures.value ∙ c.bits.invariant.packed.count ∙ ap (blocks_for g.B.BitBlock.width) (sym (length_from_view _ _ _ _ _ c.bits.view_is)) in
      omega (arith, count, c.requires.inside);
}

pub invariant_of-result : goal.invariant_of-result
invariant_of-result g c = c.after-pending.ensures.walk
