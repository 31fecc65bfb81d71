use Rattle.std.proofs.Common.{◌==◌, ◌+◌, not, map, ap, ◌∙◌, arith}
use Rattle.bit_blocks.{specs.Storage.{value_at, is_used}, proofs.{SearchLemmas.{finds_before_below, finds_before_same}, ZeroLemmas.dropped}}
use Rattle.bit_words.proofs.LastLemmas.{stored_fits}
use Rattle.bit_words.proofs.summary.searching.last_used_from.Goals as goal

pub last_one-requires-clause-fits : goal.last_one-requires-clause-fits
last_one-requires-clause-fits g c = λ i.
    stored_fits g.B.BitBlock.width g.B.BitBlock.number g.B.BitBlock.is_block c.args.start c.args.end i c.args.blocks.now
    c.args.summary.now g.met.B.BitBlock.width_law.positive c.requires.chunk c.requires.to c.requires.fits c.requires.stored

pub returns-else-is_short : goal.returns-else-is_short
returns-else-is_short g c =
    finds_before_below (value_at g.B.BitBlock.width (map g.B.BitBlock.number c.args.summary.now)) (λ j. is_used (map g.B.BitBlock.number c.args.blocks.now) (c.args.start + j)) _ _
    (λ j below. c.requires.stored.digit (c.is_short.ensures.long c.if-is_short.false) j (omega (arith, below, c.requires.within))) c.last_one.ensures

pub returns-then-is_short : goal.returns-then-is_short
returns-then-is_short g c =
    let number = g.B.BitBlock.number in
    finds_before_same (is_used (map number c.split_at.result.1.now)) (λ j. is_used (map number c.args.blocks.now) (c.args.start + j)) _ _
    (λ j. ap (λ ys. is_used (map number ys) j) c.split_at.ensures.back ∙ ap (λ m. not (m == 0)) (dropped number c.args.start j c.args.blocks.now)) c.last_used.ensures
