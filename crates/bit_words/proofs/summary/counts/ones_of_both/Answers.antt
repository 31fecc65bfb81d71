use Rattle.std.proofs.Common.{◌≡◌, ◌+◌, ◌∙◌, ap, ap₂, map, sym, arith}
use Rattle.bit_blocks.specs.{Digits.is_one, Merges.merge_of_values}
use Rattle.bit_words.{specs.MergedOnes.merged_ones, proofs.MergedOnesLemmas.{merged_block, merged_empty, merged_le, merged_more}}
use Rattle.bit_words.proofs.summary.counts.ones_of_both.Goals.{After-count_ones-ones}
use Rattle.bit_words.proofs.summary.counts.ones_of_both.Goals as goal

-- with the ones of block j of them
counted : (g : _) (c : After-count_ones-ones g)
    → c.loop-j.ones + c.count_ones-ones.result ≡ merged_ones g.O.Operation.merge g.B.BitBlock.width
    (map g.B.BitBlock.number c.args.blocks.now) (map g.B.BitBlock.number c.args.others.now) c.args.start
    (c.args.start + (c.loop-j.j + 1))
counted g c =
    let m = g.O.Operation.merge in
    let k = c.args.start + c.loop-j.j in
    let ones = merged_ones m g.B.BitBlock.width (map g.B.BitBlock.number c.args.blocks.now) (map g.B.BitBlock.number c.args.others.now) in
    let one =
    merged_block m g.B.BitBlock.width _ _ k (g.B.BitBlock.number c.of_blocks.result)
    (g.met.B.BitBlock.number_law c.of_blocks.result c.of_blocks.ensures.of_block).0
    (λ j index.
    c.of_blocks.ensures.digits j index
    ∙ ap₂ (λ x y. merge_of_values m (is_one x j) (is_one y j)) c.block_at.ensures.of_number c.block_at-in-loop-j.ensures.of_number) in
    merged_more m g.B.BitBlock.width _ _ c.args.start k (k + 1) _ _ (omega arith) (omega arith) c.loop-j.invariant (c.count_ones-ones.ensures ∙ one)
    ∙ ap (ones c.args.start) (let e : k + 1 ≡ c.args.start + (c.loop-j.j + 1) = omega arith in e)

pub overflow_add-ones : goal.overflow_add-ones
overflow_add-ones g c =
    let more = counted g (goal.at.overflow_add-ones g c).After-count_ones-ones in
    let most = merged_le g.O.Operation.merge g.B.BitBlock.width (map g.B.BitBlock.number c.args.blocks.now) (map g.B.BitBlock.number c.args.others.now) c.args.start c.args.start
    (c.args.start + (c.loop-j.j + 1)) (c.args.start + c.args.count) (omega arith) (omega arith) (omega arith) in
    omega (arith, more, most, c.requires.fits)

pub loop-j-preserved : goal.loop-j-preserved
loop-j-preserved g c = counted g (goal.at.loop-j-preserved g c).After-count_ones-ones

pub loop-j-init : goal.loop-j-init
loop-j-init g c =
    let ones = merged_ones g.O.Operation.merge g.B.BitBlock.width (map g.B.BitBlock.number c.args.blocks.now) (map g.B.BitBlock.number c.args.others.now) in
    sym (merged_empty g.O.Operation.merge g.B.BitBlock.width _ _ c.args.start)
    ∙ ap (ones c.args.start) (let e : c.args.start ≡ c.args.start + 0 = omega arith in e)

pub returns : goal.returns
returns g c = let end : c.loop-j.j ≡ c.args.count = omega arith in rw end at c.loop-j.invariant
