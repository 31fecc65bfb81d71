use Rattle.std.proofs.Common.{◌/◌, ◌%◌, ◌<◌, ◌∙◌, ap, get_or, map, sym, arith, div-lt_iff_lt-mul}
use Rattle.bit_blocks.{specs.Digits.is_one, proofs.{StorageLemmas.value_at-is, ZeroLemmas.front_read}}
use Rattle.bit_words.proofs.summary.clearing.clear_chunks.Goals as goal

pub clear_runs-requires-clause-says : goal.clear_runs-requires-clause-says
clear_runs-requires-clause-says g c = λ k within.
    let w = g.B.BitBlock.width in
    let number = g.B.BitBlock.number in
    let ss = c.args.summary.now in
    let below : k / w < c.args.end = omega (arith, (div-lt_iff_lt-mul g.met.B.BitBlock.width_law.positive).1 within, c.split_at.ensures.front_len) in
    let front = ap (λ xs. get_or (map number xs) (k / w) 0) c.split_at.ensures.front ∙ front_read w number g.B.BitBlock.is_block ss c.args.end (k / w) below in
    rw c.as_mut_slice.ensures.value
    (value_at-is w (map number c.split_at.result.0.now) k ∙ ap (λ m. is_one m (k % w)) front ∙ sym (value_at-is w (map number ss) k) ∙ c.requires.summary.digit k)
