use Rattle.std.proofs.Common.{◌*◌, arith, ap, div-mul-le_self}
use Rattle.bit_blocks.proofs.ChangeLemmas.{div_le}
use Rattle.bit_words.proofs.summary.merges.dense_end.Goals as goal

pub returns-then-is_dense-clause-from : goal.returns-then-is_dense-clause-from
returns-then-is_dense-clause-from g c =
    let w = g.B.BitBlock.width in
    let less = div_le w c.args.start c.len.result g.met.B.BitBlock.width_law.positive (omega (arith, c.requires.from, c.len.ensures.value)) in
    omega (arith, less, c.block_index.ensures)

pub returns-then-is_dense-clause-in_others : goal.returns-then-is_dense-clause-in_others
returns-then-is_dense-clause-in_others g c =
    let w = g.B.BitBlock.width in
    let at = ap (λ n. n * w) c.block_index.ensures in
    omega (arith, div-mul-le_self c.len.result w, c.len.ensures.value, at)

pub returns-else-is_dense-clause-in_others : goal.returns-else-is_dense-clause-in_others
returns-else-is_dense-clause-in_others g c =
    let w = g.B.BitBlock.width in
    let at = ap (λ n. n * w) c.block_index-else-is_dense.ensures in
    omega (arith, div-mul-le_self c.args.start w, c.requires.from, at)
