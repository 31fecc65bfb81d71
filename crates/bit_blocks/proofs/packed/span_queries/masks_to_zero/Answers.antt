use Rattle.std.proofs.{Common.{◌<◌, ◌≡◌, ◌==◌, ◌^◌, ◌↔◌, ℕ, Bool, IsTrue, false, sym, ap, ◌∙◌}, lemmas.Bool.{eq-eqb, eqb-true}}
use Rattle.bit_blocks.{specs.{Digits.is_one, Merges.merge_of_values, declared.block.merge.Merge.Merge}, proofs.CompareLemmas.{digit_from_zero, zero_from_digits}}
use Rattle.bit_blocks.proofs.packed.span_queries.masks_to_zero.Goals as goal

-- n is what a mask and x merge to
merged_zero : (m : Merge) (w n a x mask z : ℕ) (b : Bool) → n < 2 ^ w → a ≡ x → z ≡ 0 → b ≡ (n == z)
    → ((j : ℕ) → j < w → is_one n j ≡ merge_of_values m (is_one mask j) (is_one a j))
    → IsTrue b ↔ ((j : ℕ) → j < w → merge_of_values m (is_one mask j) (is_one x j) ≡ false)
merged_zero m w n a x mask z b small read naught says digits = (
  λ yes j index. ap (λ y. merge_of_values m (is_one mask j) (is_one y j)) (sym read) ∙ sym (digits j index) ∙ digit_from_zero n j (eqb-true n z (sym says ∙ yes) ∙ naught),
  λ falses. says ∙ eq-eqb n z (zero_from_digits w n small (λ j index. digits j index ∙ ap (λ y. merge_of_values m (is_one mask j) (is_one y j)) read ∙ falses j index) ∙ sym naught),
)

pub returns : goal.returns
returns g c =
    merged_zero _ g.B.BitBlock.width _ _ _ _ _ _
    (g.met.B.BitBlock.number_law _ c.of_blocks.ensures.of_block).0 c.block_at.ensures.of_number c.zero.ensures.of_number
    c.same.ensures c.of_blocks.ensures.digits
