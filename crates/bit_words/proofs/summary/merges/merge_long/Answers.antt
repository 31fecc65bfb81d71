use Rattle.std.proofs.Common.{◌≡◌, ◌*◌, ◌/◌, ◌≤◌, refl, ap, arith, div-mul-le_self, mul-le-mul_right}
use Rattle.bit_blocks.proofs.{BitsLemmas.blocks_for-le, BlockMergeLemmas.merged_more}
use Rattle.bit_words.proofs.{CapacityLemmas.blocks_for-whole, TouchedLemmas.merged_through}
use Rattle.bit_words.proofs.summary.merges.merge_long.{Given.Over, Goals.After-dense_end-dense}
use Rattle.bit_words.proofs.summary.merges.merge_long.Goals as goal

-- the chunks that are merged without a look at the summaries are no more than there are to merge
dense_within : (g : Over) (c : After-dense_end-dense g) → c.dense_end-dense.result ≤ c.chunks_to_merge-chunks.result
dense_within g c =
    let w = g.B.BitBlock.width in
    let pos = g.met.B.BitBlock.width_law.positive in
    let le = blocks_for-le w (c.dense_end-dense.result * w) (g.S.Others.count c.args.others) pos c.dense_end-dense.ensures.in_others in
    omega (arith, le, blocks_for-whole w c.dense_end-dense.result pos, c.chunks_to_merge-chunks.ensures.enough)

pub merge_chunks-requires-clause-in_summary : goal.merge_chunks-requires-clause-in_summary
merge_chunks-requires-clause-in_summary g c =
    omega (arith, dense_within g (goal.at.merge_chunks-requires-clause-in_summary g c).After-dense_end-dense, c.chunks_to_merge-chunks.ensures.within)

pub merge_touched_chunks-requires-clause-forward : goal.merge_touched_chunks-requires-clause-forward
merge_touched_chunks-requires-clause-forward g c = dense_within g (goal.at.merge_touched_chunks-requires-clause-forward g c).After-dense_end-dense

pub returns-clause-has : goal.returns-clause-has
returns-clause-has g c =
    let w = g.B.BitBlock.width in
    let last = dense_within g (goal.at.returns-clause-has g c).After-dense_end-dense in
    let begin : c.block_index.result * w ≡ c.args.start / w * w = ap (λ n. n * w) c.block_index.ensures in
    let first = merged_more _ _ _ _ (c.args.start / w * w) (c.dense_end-dense.result * w) (c.chunks_to_merge-chunks.result * w) _ _ _ _ _ _
    (mul-le-mul_right w c.dense_end-dense.ensures.from) (mul-le-mul_right w last) refl refl
    (rw begin at c.merge_chunks.ensures.has) c.merge_touched_chunks.ensures.has in
    merged_through _ w _ _ 0 _ _ c.args.start (c.args.start / w) c.chunks_to_merge-chunks.result _
    (div-mul-le_self c.args.start w) c.requires.stay first (λ k j beyond below index. c.chunks_to_merge-chunks.ensures.rest.digit k j beyond below index)
