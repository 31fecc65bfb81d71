use Rattle.std.proofs.{Common.{◌≡◌, ◌+◌, ◌*◌, ◌^◌, ◌-◌, ◌≤◌, ◌∙◌, All, ap, length, map, min, subst, sym, arith, mul-le-mul_right}, lemmas.List.Elements.All-drop}
use Rattle.bit_blocks.{specs.Digits.is_one, proofs.{StorageLemmas.value_at-index, UseLemmas.zero_from_unused}}
use Rattle.bit_words.proofs.{ClearedLemmas.{cleared_none, cleared_saturated}, ComparedLemmas.{zero_chunks}}
use Rattle.bit_words.proofs.summary.clearing.clear_next.Goals as goal

pub returns-then-not-is_nonzero-clause-cleared : goal.returns-then-not-is_nonzero-clause-cleared
returns-then-not-is_nonzero-clause-cleared g c =
    let w = g.B.BitBlock.width in
    let q = c.args.q in
    let n = c.zeros_before.result in
    let end : q + n ≤ length c.args.summary.now = omega (arith, c.zeros_before.ensures.within, c.split_at.ensures.back_len) in
    cleared_none g.B.BitBlock.number g.B.BitBlock.is_block (q * w) ((q + n) * w) c.args.blocks.now c.requires.each
    (λ k reached below.
    zero_from_unused _ (sym (c.requires.says k reached (omega (arith, below, mul-le-mul_right w end)))
    ∙ zero_chunks w q n g.B.BitBlock.number c.args.summary.now _ g.met.B.BitBlock.width_law.positive c.split_at.ensures.back c.zeros_before.ensures.zeros k reached below))

pub clear_used-requires-clause-says : goal.clear_used-requires-clause-says
clear_used-requires-clause-says g c = λ p within.
    let w = g.B.BitBlock.width in
    let upto : (c.args.q + 1) * w ≤ length c.args.summary.now * w = mul-le-mul_right w (omega (arith, c.requires.in_summary)) in
    ap (λ m. is_one m p) c.block_at-used.ensures.of_number
    ∙ sym (value_at-index w (map g.B.BitBlock.number c.args.summary.now) c.args.q p within)
    ∙ c.requires.says (c.args.q * w + p) (omega arith) (omega (arith, upto, within))

pub chunks_before_few-count-requires-clause-each : goal.chunks_before_few-count-requires-clause-each
chunks_before_few-count-requires-clause-each g c = subst (All g.B.BitBlock.is_block) (sym c.split_at.ensures.back) (All-drop g.B.BitBlock.is_block c.args.q c.args.summary.now c.requires.summary)

pub returns-clause-cleared : goal.returns-clause-cleared
returns-clause-cleared g c =
    let w = g.B.BitBlock.width in
    let q = c.args.q in
    let end = q + c.chunks_before_few-count.result in
    let from : c.saturating_mul.result ≡ min (q * w) (2 ^ 64 - 1) = c.saturating_mul.ensures ∙ ap (λ b. min (q * b) (2 ^ 64 - 1)) c.bits-width.ensures in
    let to : c.saturating_mul-2.result ≡ min (end * w) (2 ^ 64 - 1) = c.saturating_mul-2.ensures ∙ ap (λ b. min (end * b) (2 ^ 64 - 1)) c.bits-width.ensures in
    cleared_saturated g.B.BitBlock.number g.B.BitBlock.is_block (q * w) (end * w) (2 ^ 64 - 1) c.args.blocks.now _ (mul-le-mul_right w (omega arith))
    (omega (arith, c.requires.fits)) (rw (from, to) at c.clear_blocks.ensures)
