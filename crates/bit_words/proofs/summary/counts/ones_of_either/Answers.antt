use Rattle.std.proofs.Common.{◌≡◌, ◌+◌, map, sym, arith}
use Rattle.bit_words.{specs.MergedOnes.merged_ones, proofs.MergedOnesLemmas.{merged_empty, merged_le, merged_more}}
use Rattle.bit_words.proofs.summary.counts.ones_of_either.Goals.{After-ones_at-ones}
use Rattle.bit_words.proofs.summary.counts.ones_of_either.Goals as goal

-- with the ones of block k
counted : (g : _) (c : After-ones_at-ones g)
    → c.loop-k.ones + c.ones_at-ones.result ≡ merged_ones g.O.Operation.merge g.B.BitBlock.width
    (map g.B.BitBlock.number c.args.blocks.now) (map g.B.BitBlock.number c.args.others.now) c.args.first (c.loop-k.k + 1)
counted g c =
    merged_more g.O.Operation.merge g.B.BitBlock.width _ _ c.args.first c.loop-k.k (c.loop-k.k + 1) _ _ (omega arith) (omega arith) c.loop-k.invariant c.ones_at-ones.ensures

pub overflow_add-ones : goal.overflow_add-ones
overflow_add-ones g c =
    let more = counted g (goal.at.overflow_add-ones g c).After-ones_at-ones in
    let most = merged_le g.O.Operation.merge g.B.BitBlock.width (map g.B.BitBlock.number c.args.blocks.now) (map g.B.BitBlock.number c.args.others.now) c.args.first c.args.first
    (c.loop-k.k + 1) c.args.end (omega arith) (omega arith) (omega arith) in
    omega (arith, more, most, c.requires.fits)

pub loop-k-preserved : goal.loop-k-preserved
loop-k-preserved g c = counted g (goal.at.loop-k-preserved g c).After-ones_at-ones

pub loop-k-init : goal.loop-k-init
loop-k-init g c = sym (merged_empty g.O.Operation.merge g.B.BitBlock.width _ _ c.args.first)
