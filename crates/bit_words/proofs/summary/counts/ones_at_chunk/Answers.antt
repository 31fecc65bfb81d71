use Rattle.std.proofs.Common.{◌≡◌, ◌+◌, ◌*◌, ◌<◌, ◌≤◌, ◌∙◌, ap, map, arith}
use Rattle.std.proofs.{Math.Nat.le-div_iff_mul-le, lemmas.{Bool.Decides.nat_tests, List.length-map}}
use Rattle.bit_blocks.proofs.BitsLemmas.{whole_before}
use Rattle.bit_words.{specs.MergedOnes.merged_ones, proofs.MergedOnesLemmas.{covers_merged, merged_le}}
use Rattle.bit_words.proofs.summary.counts.ones_at_chunk.Goals as goal

pub summary_at-own-requires-clause-fits : goal.summary_at-own-requires-clause-fits
summary_at-own-requires-clause-fits g c =
    let begins = whole_before g.B.BitBlock.width _ c.args.q g.met.B.BitBlock.width_law.positive c.requires.in_blocks in
    omega (arith, begins, c.requires.lengths)

pub summary_at-requires-clause-fits : goal.summary_at-requires-clause-fits
summary_at-requires-clause-fits g c =
    let begins = whole_before g.B.BitBlock.width _ c.args.q g.met.B.BitBlock.width_law.positive c.requires.in_blocks in
    omega (arith, begins, c.requires.lengths)

pub overflow_mul-start : goal.overflow_mul-start
overflow_mul-start g c =
    let begins = whole_before g.B.BitBlock.width _ c.args.q g.met.B.BitBlock.width_law.positive c.requires.in_blocks in
    let start = ap (λ b. c.args.q * b) c.bits.ensures in
    omega (arith, begins, start, c.requires.lengths)

pub ones_of_chunk-requires-clause-covers : goal.ones_of_chunk-requires-clause-covers
ones_of_chunk-requires-clause-covers g c =
    let used = c.may_have_ones-used.ensures.digits in
    rw c.bits.ensures
    (covers_merged g.O.Operation.merge g.B.BitBlock.width _ _ c.args.q _ _ _
    (rw length-map (omega (arith, c.requires.lengths))) (rw length-map (omega (arith, c.requires.lengths)))
    c.summary_at-own.ensures.digits c.summary_at.ensures.digits used)

pub ones_of_chunk-requires-clause-whole : goal.ones_of_chunk-requires-clause-whole
ones_of_chunk-requires-clause-whole g c = λ is.
    let w = g.B.BitBlock.width in
    let below : c.args.q < c.block_index-whole.result = grind (arith, nat_tests, is) in
    let inside : (c.args.q + 1) * w ≤ c.min.result = (le-div_iff_mul-le g.met.B.BitBlock.width_law.positive).0 (omega (arith, below, c.block_index-whole.ensures)) in
    rw c.bits.ensures (omega (arith, inside, c.min.ensures), omega (arith, inside, c.min.ensures))

pub ones_of_chunk-requires-clause-fits : goal.ones_of_chunk-requires-clause-fits
ones_of_chunk-requires-clause-fits g c =
    let w = g.B.BitBlock.width in
    let start = c.args.q * c.bits.result in
    let most = merged_le g.O.Operation.merge w (map g.B.BitBlock.number c.args.blocks.now) (map g.B.BitBlock.number c.args.others.now) 0 start (start + w) (start + w) (omega arith)
    (omega arith) (omega arith) in
    omega (arith, most, c.requires.fits (start + w))

pub returns : goal.returns
returns g c =
    let w = g.B.BitBlock.width in
    let q = c.args.q in
    let ones = merged_ones g.O.Operation.merge w (map g.B.BitBlock.number c.args.blocks.now) (map g.B.BitBlock.number c.args.others.now) in
    c.ones_of_chunk.ensures ∙ ap (λ b. ones (q * b) (q * b + w)) c.bits.ensures ∙ ap (ones (q * w)) (let e : q * w + w ≡ (q + 1) * w = omega arith in e)
