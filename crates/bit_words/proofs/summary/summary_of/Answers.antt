use Rattle.std.proofs.Common.{◌≡◌, ◌+◌, ◌*◌, ◌/◌, ◌<◌, ◌≤◌, ◌∙◌, length, map, sym, arith, div-mul-le_self, mul-le-mul_right}
use Rattle.bit_blocks.proofs.StorageLemmas.{value_at-index}
use Rattle.bit_words.proofs.RangeCountLemmas.{chunks_within}
use Rattle.bit_words.proofs.summary.summary_of.Goals as goal

pub summarize-requires-clause-within : goal.summarize-requires-clause-within
summarize-requires-clause-within g c =
    let w = g.B.BitBlock.width in
    let few = chunks_within w (length c.args.blocks.now) (c.args.k / w) g.met.B.BitBlock.width_law.positive (omega (arith, div-mul-le_self c.args.k w, c.requires.within)) in
    omega (arith, few, c.block_index.ensures, c.in_ok-summary.ensures.packed.count)

pub summarize-requires-clause-before : goal.summarize-requires-clause-before
summarize-requires-clause-before g c = λ q j before index.
    let w = g.B.BitBlock.width in
    let chunk : (q + 1) * w ≤ c.args.k / w * w = mul-le-mul_right w (omega (arith, before, c.block_index.ensures)) in
    let below : q * w + j < c.args.k = omega (arith, chunk, index, div-mul-le_self c.args.k w) in
    sym (value_at-index w (map g.B.BitBlock.number c.in_ok-summary.summary.items) q j index)
    ∙ c.in_ok-summary.ensures.filled (q * w + j) (omega (arith, below, c.requires.within))
    ∙ sym (c.requires.zeros (q * w + j) below)
