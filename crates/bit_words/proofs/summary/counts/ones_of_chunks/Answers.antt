use Rattle.std.proofs.Common.{◌≡◌, ◌+◌, ◌*◌, ◌≤◌, map, sym, arith, mul-le-mul_right}
use Rattle.bit_words.{specs.MergedOnes.merged_ones, proofs.MergedOnesLemmas.{merged_empty, merged_le, merged_more}}
use Rattle.bit_words.proofs.summary.counts.ones_of_chunks.Goals.{After-ones_at_chunk-ones}
use Rattle.bit_words.proofs.summary.counts.ones_of_chunks.Goals as goal

-- with those of chunk q
counted : (g : _) (c : After-ones_at_chunk-ones g)
    → c.loop-q.ones + c.ones_at_chunk-ones.result ≡ merged_ones g.O.Operation.merge g.B.BitBlock.width
    (map g.B.BitBlock.number c.args.blocks.now) (map g.B.BitBlock.number c.args.others.now)
    (c.args.first * g.B.BitBlock.width) ((c.loop-q.q + 1) * g.B.BitBlock.width)
counted g c =
    let w = g.B.BitBlock.width in
    let reached : c.args.first ≤ c.loop-q.q = omega arith in
    merged_more g.O.Operation.merge w _ _ (c.args.first * w) (c.loop-q.q * w) ((c.loop-q.q + 1) * w) _ _ (mul-le-mul_right w reached) (omega arith)
    c.loop-q.invariant c.ones_at_chunk-ones.ensures

pub overflow_add-ones : goal.overflow_add-ones
overflow_add-ones g c =
    let w = g.B.BitBlock.width in
    let last = (c.loop-q.q + 1) * w in
    let more = counted g (goal.at.overflow_add-ones g c).After-ones_at_chunk-ones in
    let reached : c.args.first ≤ c.loop-q.q + 1 = omega arith in
    let most = merged_le g.O.Operation.merge w (map g.B.BitBlock.number c.args.blocks.now) (map g.B.BitBlock.number c.args.others.now) 0 (c.args.first * w) last last (omega arith)
    (mul-le-mul_right w reached) (omega arith) in
    omega (arith, more, most, c.requires.fits last)

pub loop-q-preserved : goal.loop-q-preserved
loop-q-preserved g c = counted g (goal.at.loop-q-preserved g c).After-ones_at_chunk-ones

pub loop-q-init : goal.loop-q-init
loop-q-init g c = sym (merged_empty g.O.Operation.merge g.B.BitBlock.width _ _ (c.args.first * g.B.BitBlock.width))

pub returns : goal.returns
returns g c = let end : c.loop-q.q ≡ c.args.end = omega arith in rw end at c.loop-q.invariant
