use Rattle.std.proofs.{Common.{◌≡◌, ℕ, ◌<◌, List, length, set, map, get_or, ap, ◌∙◌, get_or-set_same, get_or-set_other}, lemmas.List.length-map}
use Rattle.bit_blocks.specs.{declared.block.merge.Merge.Merge, Digits.is_one, Merges.merge_of_values}
use Rattle.bit_blocks.proofs.packed.spans.merge_mask.Goals as goal

-- a digit of block k, which was a and became r
merged : (m : Merge) (k j a mask r : ℕ) (ms ns : List ℕ) → k < length ms → a ≡ get_or ms k 0 → ns ≡ set ms k r
    → is_one r j ≡ merge_of_values m (is_one a j) (is_one mask j)
    → is_one (get_or ns k 0) j ≡ merge_of_values m (is_one (get_or ms k 0) j) (is_one mask j)
merged m k j a mask r ms ns within read put digit =
    ap (λ xs. is_one (get_or xs k 0) j) put ∙ ap (λ n. is_one n j) (get_or-set_same ms k r 0 within) ∙ digit ∙ ap (λ n. merge_of_values m (is_one n j) (is_one mask j)) read

pub returns-clause-digits : goal.returns-clause-digits
returns-clause-digits g c = λ j index.
    merged _ c.args.k j _ (g.B.BitBlock.number c.args.mask) _ (map g.B.BitBlock.number c.args.blocks.now) _
    (rw length-map c.requires.in_bounds) c.block_at.ensures.of_number c.put_in.ensures.numbers
    (c.of_blocks-merged.ensures.digits j index)

pub returns-clause-others : goal.returns-clause-others
returns-clause-others g c = λ q other. ap (λ ns. get_or ns q 0) c.put_in.ensures.numbers ∙ get_or-set_other (map g.B.BitBlock.number c.args.blocks.now) c.args.k q _ 0 other
