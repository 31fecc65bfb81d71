use Rattle.std.proofs.{Common.{◌≡◌, ℕ, ◌+◌, ◌-◌, ◌≤◌, List, All, drop, get_or, length, map, sym, ap, ◌∙◌, arith}, lemmas.Bool.false≢true}
use Rattle.bit_blocks.proofs.{CompareLemmas.{difference_of_blocks, shorter_end}, VectorLemmas.{all_zero_map, numbers_below}, ZeroLemmas.{all_zero, dropped}}
use Rattle.bit_blocks.proofs.packed.inclusion.difference_is_zero.Goals as goal

-- the blocks past the first are 0
rest_read : {X : Type 0} (number : X → ℕ) (count : ℕ) (xs : List X) → All (λ x. number x ≡ 0) (drop count xs) → (k : ℕ) → count ≤ k → get_or (map number xs) k 0 ≡ 0
rest_read number count xs zeros k past =
    ap (λ q. get_or (map number xs) q 0) (let e : k ≡ count + (k - count) = omega (arith, past) in e)
    ∙ sym (dropped number count (k - count) xs)
    ∙ all_zero_map number (drop count xs) zeros (k - count)

pub returns-then-first_merge_to_zero : goal.returns-then-first_merge_to_zero
returns-then-first_merge_to_zero g c =
    let number = g.B.BitBlock.number in
    let w = g.B.BitBlock.width in
    let xs = c.args.blocks.now in
    let count = c.min-count.result in
    let small = numbers_below w _ _ _ (λ x is. (g.met.B.BitBlock.number_law x is).0) c.requires.each in
    let both = difference_of_blocks _ _ _ _ g.met.B.BitBlock.width_law.positive small (shorter_end _ _ _ _ c.min-count.ensures) in
    let zeros = c.first_merge_to_zero.ensures.0 c.if-first_merge_to_zero.true in
    let rest = rw c.split_at.ensures.back at c.are_zero.ensures in
    record {
      zero = (
        λ yes. both.0 (zeros, rest_read number count xs (rest.0 yes)),
        λ falses. rest.1 (all_zero w number g.B.BitBlock.is_block (drop count xs) (λ k. dropped number count k xs ∙ (both.1 falses).1 (count + k) (omega arith))),
      );
    }

pub returns-else-first_merge_to_zero : goal.returns-else-first_merge_to_zero
returns-else-first_merge_to_zero g c =
    let small = numbers_below g.B.BitBlock.width _ _ _ (λ x is. (g.met.B.BitBlock.number_law x is).0) c.requires.each in
    let both = difference_of_blocks _ _ _ _ g.met.B.BitBlock.width_law.positive small (shorter_end _ _ _ _ c.min-count.ensures) in
    record {
      zero = (
        λ yes. absurd (false≢true (sym c.if-first_merge_to_zero.false ∙ yes)),
        λ falses. c.first_merge_to_zero.ensures.1 (both.1 falses).0,
      );
    }
