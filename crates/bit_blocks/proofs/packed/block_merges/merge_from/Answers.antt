use Rattle.std.proofs.Common.{length, refl, arith}
use Rattle.bit_blocks.proofs.BlockMergeLemmas.{merged_more, merged_past_others}
use Rattle.bit_blocks.proofs.packed.block_merges.merge_from.Goals as goal

pub returns : goal.returns
returns g c =
    let count = c.len-count.result in
    let long = length c.args.blocks.now in
    let rest = merged_past_others _ _ _ _ count _ (g.S.Others.digit c.args.others) _ _ (λ k j from. c.len-count.ensures.past k j from) c.merge_rest.ensures.has in
    record { has = merged_more _ _ _ _ c.args.start count long _ _ _ _ _ _ (omega arith) (omega arith) refl (omega arith) c.merge_between.ensures.has rest }
