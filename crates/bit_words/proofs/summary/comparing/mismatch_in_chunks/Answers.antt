use Rattle.bit_words.proofs.ComparedLemmas.{first_run, same_run}
use Rattle.bit_words.proofs.summary.comparing.mismatch_in_chunks.Goals as goal

pub returns-in_err-k : goal.returns-in_err-k
returns-in_err-k g c =
    rw c.from_residual.ensures
    (same_run g.B.BitBlock.width c.args.q c.args.count g.B.BitBlock.number g.B.BitBlock.is_block c.args.blocks.now c.args.others.now _ _ _ _
    c.first_chunks.ensures.rest c.first_chunks-2.ensures.first c.first_chunks-3.ensures.rest c.first_chunks-4.ensures.first c.requires.before c.in_err-k.ensures)

pub returns : goal.returns
returns g c =
    rw c.bits.ensures
    (first_run g.B.BitBlock.width c.args.q c.args.count g.B.BitBlock.number g.B.BitBlock.is_block c.args.blocks.now c.args.others.now _ _ _ _
    c.first_chunks.ensures.rest c.first_chunks-2.ensures.first c.first_chunks-3.ensures.rest c.first_chunks-4.ensures.first c.requires.before c.in_ok-k.k c.in_ok-k.ensures)
