use Rattle.std.proofs.Common.{map}
use Rattle.bit_blocks.{specs.Storage.{value_at, is_used}, proofs.SearchLemmas.{finds_before_same, value_fits}}
use Rattle.bit_words.proofs.summary.searching.last_used_by_summary.Goals as goal

pub last_one-requires : goal.last_one-requires
last_one-requires g c =
    let is = c.requires.summary.long (c.is_short.ensures.long c.if-is_short.false) in
    record { each = is.packed.each; fits = value_fits _ _ _ is.packed.tail is.packed.fits }

pub returns-else-is_short : goal.returns-else-is_short
returns-else-is_short g c =
    let is = c.requires.summary.long (c.is_short.ensures.long c.if-is_short.false) in
    finds_before_same (value_at g.B.BitBlock.width (map g.B.BitBlock.number c.args.summary.now)) (is_used (map g.B.BitBlock.number c.args.blocks.now)) _ _ is.digit c.last_one.ensures
