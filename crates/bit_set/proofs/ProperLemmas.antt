-- Which sets are proper subsets of which, by the blocks that hold them.
use Rattle.std.proofs.Common.{◌≡◌, ℕ, ◌+◌, ◌-◌, ◌*◌, ◌/◌, ◌%◌, ◌<◌, ◌≤◌, min, Bool, true, false, not, ◌&&◌, List, refl, drop, get_or, length, get_or-drop, sym, ◌∙◌, ◌↔◌, arith, ⊎_elim}
use Rattle.std.proofs.lemmas.{Bool.{cases_lt, false≢true}, List.get_or_past}
use Rattle.std.{proofs.Math.Nat.{div-add-mod', mod-lt}, specs.{Prelude.IsTrue, Cmp.Lexicographic.bytes_decides}}
use Rattle.bit_blocks.specs.{BlockMerges.MergesToFalse, Bits.blocks_of, Mismatches.IsFirstBlockMismatch, Storage.value_at, declared.block.merge.Merge.TheVariants.Difference}
use Rattle.bit_blocks.proofs.StorageLemmas.{value_at-is, value_at-index}
use Rattle.set_algebra.specs.Sets.{elements, has, is_subset}
use Rattle.set_algebra.proofs.{SetLemmas.{IsAscending-elements}, SubsetLemmas.{is_subset-both_ways, is_subset-members, same_tests}}
use Rattle.set_algebra.proofs.MismatchLemmas.{has-number, same_by_blocks}

-- the blocks from one on have the values from its first on
value_at-rest : (w at p : ℕ) (ms : List ℕ) (i : ℕ) → 0 < w → p ≡ min at (length ms) → value_at w (drop p ms) i ≡ value_at w ms (at * w + i)
value_at-rest w at p ms i pos end = grind (
  arith,
  value_at-is w (drop p ms) i,
  get_or-drop p ms (i / w) 0,
  get_or_past ms (p + i / w) 0,
  get_or_past ms (at + i / w) 0,
  value_at-index w ms (at + i / w) (i % w),
  mod-lt i pos,
  div-add-mod' i w,
)

-- where the blocks before are the same, only the others decide whether the first are within the second
pub rest_decides : (w at p q : ℕ) (ms ns : List ℕ) (b : Bool) → 0 < w → p ≡ min at (length ms) → q ≡ min at (length ns)
    → ((k : ℕ) → k < at → get_or ms k 0 ≡ get_or ns k 0) → IsTrue b ↔ MergesToFalse Difference w (drop p ms) (drop q ns) → IsTrue b ↔ MergesToFalse Difference w ms ns
rest_decides w at p q ms ns b pos end other_end same tells = (
  λ is. record {
    value = λ i.
        ⊎_elim
        (λ (low : i / w < at). grind (arith, value_at-is w ms i, value_at-is w ns i, same (i / w) low))
        (λ (high : at ≤ i / w). let k = i - at * w in grind (arith, value_at-rest w at p ms k pos end, value_at-rest w at q ns k pos other_end, (tells.0 is).value k, div-add-mod' i w))
        (cases_lt (i / w) at);
  },
  λ falses. tells.1 (record { value = λ i. grind (arith, value_at-rest w at p ms i pos end, value_at-rest w at q ns i pos other_end, falses.value (at * w + i)) }),
)

-- a value of the blocks of a list is whether the set has its place
value_at-blocks : (w i : ℕ) (values : List Bool) → 0 < w → value_at w (blocks_of w values) i ≡ has (elements values) i
value_at-blocks w i values pos = value_at-is w (blocks_of w values) i ∙ sym (has-number w i values pos)

within_by_blocks : (w : ℕ) (xs ys : List Bool) (b : Bool) → 0 < w → IsTrue b ↔ MergesToFalse Difference w (blocks_of w xs) (blocks_of w ys) → b ≡ is_subset (elements xs) (elements ys)
within_by_blocks w xs ys b pos tells =
    let each = is_subset-members (elements xs) (elements ys) in
    same_tests b (is_subset (elements xs) (elements ys))
    (λ is. each.1 (λ n member. grind (arith, (tells.0 is).value n, value_at-blocks w n xs pos, value_at-blocks w n ys pos, member)))
    (λ all. tells.1 (record { value = λ i. let at = each.0 all i in grind (arith, at, value_at-blocks w i xs pos, value_at-blocks w i ys pos) }))

-- where the blocks differ, the sets do, so that one that is within the other is within it properly
pub proper_by_mismatch : (w at : ℕ) (xs ys : List Bool) (b : Bool) → 0 < w → IsFirstBlockMismatch (blocks_of w xs) (blocks_of w ys) at → IsTrue b
    ↔ MergesToFalse Difference w (blocks_of w xs) (blocks_of w ys) → b ≡ (is_subset (elements xs) (elements ys) && not (is_subset (elements ys) (elements xs)))
proper_by_mismatch w at xs ys b pos first tells =
    let s = elements xs in
    let t = elements ys in
    let apart = same_by_blocks w xs ys false pos (λ no. absurd (false≢true no), λ all. absurd (first.here (all at))) in
    let both = is_subset-both_ways s t (IsAscending-elements xs) (IsAscending-elements ys) in
    let not_both : is_subset s t ≡ true → is_subset t s ≡ true → ⊥ = λ there back. false≢true (apart ∙ (bytes_decides s t).1 (both.0 (there, back))) in
    grind (arith, within_by_blocks w xs ys b pos tells, not_both)

pub none_proper : (w : ℕ) (xs ys : List Bool) → 0 < w → ((k : ℕ) → get_or (blocks_of w xs) k 0 ≡ get_or (blocks_of w ys) k 0)
    → false ≡ (is_subset (elements xs) (elements ys) && not (is_subset (elements ys) (elements xs)))
none_proper w xs ys pos all =
    let same = (bytes_decides (elements xs) (elements ys)).0 (sym (same_by_blocks w xs ys true pos (λ _. all, λ _. refl))) in
    let both = (is_subset-both_ways (elements xs) (elements ys) (IsAscending-elements xs) (IsAscending-elements ys)).1 same in
    grind (arith, both.0, both.1)
