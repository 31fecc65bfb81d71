use Rattle.std.proofs.{Common.{map, length, refl, arith}, lemmas.List.length-map}
use Rattle.bit_blocks.{specs.BlockMerges.except_at, proofs.BlockMergeLemmas.{apart_here, except_none, merged_more, merged_rest, merged_same}}
use Rattle.bit_blocks.proofs.packed.block_merges.unite_except.Goals as goal

pub returns : goal.returns
returns g c =
    let number = g.B.BitBlock.number in
    let os = map number c.args.others.now in
    let es = map number c.args.except.now in
    let start = c.args.start in
    let both = c.max-both.result in
    let end = length c.args.others.now in
    let first = merged_same _ _ _ _ start both _ (except_at os es) _ _
    (λ k j from below index. apart_here os es k j
    (omega (arith, length-map c.args.except.now number))) c.merge_between.ensures.has in
    let second = merged_same _ _ _ _ both end _ (except_at os es) _ _
    (λ k j from below index. except_none os es k j
    (omega (arith, length-map c.args.except.now number))) c.merge_between-2.ensures.has in
    merged_rest _ _ _ start end _ os es _ _ (omega (arith, c.requires.can.fewer))
    (λ k from below. rw length-map (omega arith))
    (merged_more _ _ _ _ start both end _ _ _ _ _ _ (omega arith) (omega arith) refl refl first second)
