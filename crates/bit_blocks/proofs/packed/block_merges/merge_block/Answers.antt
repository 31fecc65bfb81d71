use Rattle.std.proofs.{Common.{◌≡◌, ◌<◌, ◌+◌, ◌∙◌, get_or, sym, ap, map, length, arith, get_or-set_same}, lemmas.List.length-map}
use Rattle.bit_blocks.proofs.BlockMergeLemmas.{merged_put, merged_same}
use Rattle.bit_blocks.proofs.packed.block_merges.merge_block.Goals as goal

pub returns-clause-has : goal.returns-clause-has
returns-clause-has g c =
    let k = c.args.k in
    let put = merged_put _ g.B.BitBlock.width g.B.BitBlock.number _ k _ _ _ _ _
    (omega arith) c.put_in.ensures.numbers c.put_in.ensures.each c.put_in.ensures.len c.block_at.ensures.of_number
    c.of_blocks-merged.ensures.digits in
    merged_same _ _ _ _ k (k + 1) _ _ _ _ (λ q j from below index. let here : k ≡ q = omega arith in c.block.ensures.digits j index ∙ ap (λ p. g.S.Others.digit c.args.others p j) here) put

pub returns-clause-of_number : goal.returns-clause-of_number
returns-clause-of_number g c =
    let ms = map g.B.BitBlock.number c.args.blocks.now in
    let within : c.args.k < length ms = rw length-map (omega arith) in
    sym (ap (λ xs. get_or xs c.args.k 0) c.put_in.ensures.numbers ∙ get_or-set_same ms c.args.k _ 0 within)
