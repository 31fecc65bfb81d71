use Rattle.std.proofs.Common.{◌≡◌, ℕ, ◌+◌, ◌*◌, ◌^◌, ◌-◌, ◌<◌, ◌∙◌, ap, map, min, sym, arith, mul-le-mul_right}
use Rattle.bit_blocks.{specs.{Digits.is_one, Storage.is_used}, proofs.{Masks.is_one-either, StorageLemmas.value_at-index}}
use Rattle.bit_words.proofs.CopiedLemmas.{copied_saturated, either_same, either_within}
use Rattle.bit_words.proofs.summary.copies.copy_chunk.{Given.Over, Goals.After-block_or-used}
use Rattle.bit_words.proofs.summary.copies.copy_chunk.Goals as goal

-- what the summaries say of block p of the chunk
own : (g : Over) (c : After-block_or-used g) (p : ℕ) → p < g.B.BitBlock.width
    → is_one (g.B.BitBlock.number c.block_at.result) p ≡ is_used (map g.B.BitBlock.number c.args.blocks.now) (c.args.q * g.B.BitBlock.width + p)
own g c p within =
    ap (λ m. is_one m p) c.block_at.ensures.of_number ∙ sym (value_at-index g.B.BitBlock.width (map g.B.BitBlock.number c.args.summary.now) c.args.q p within)
    ∙ c.requires.says (c.args.q * g.B.BitBlock.width + p) (omega arith)

other : (g : Over) (c : After-block_or-used g) (p : ℕ) → p < g.B.BitBlock.width
    → is_one (g.B.BitBlock.number c.block_at-2.result) p ≡ is_used (map g.B.BitBlock.number c.args.from.now) (c.args.q * g.B.BitBlock.width + p)
other g c p within =
    ap (λ m. is_one m p) c.block_at-2.ensures.of_number ∙ sym (value_at-index g.B.BitBlock.width (map g.B.BitBlock.number c.args.from_summary.now) c.args.q p within)
    ∙ c.requires.says_of_other (c.args.q * g.B.BitBlock.width + p) (omega arith)

pub copy_used-requires-clause-inside : goal.copy_used-requires-clause-inside
copy_used-requires-clause-inside g c = λ p within one.
    let at = (goal.at.copy_used-requires-clause-inside g c).After-block_or-used in
    either_within g.B.BitBlock.number _ _ _ _ _ (own g at p within) (other g at p within) c.requires.as_long (sym (is_one-either _ _ _ _ p c.block_or-used.ensures.of_digits within) ∙ one)

pub copy_used-requires-clause-same : goal.copy_used-requires-clause-same
copy_used-requires-clause-same g c = λ p within none.
    let at = (goal.at.copy_used-requires-clause-same g c).After-block_or-used in
    either_same g.B.BitBlock.number (c.args.q * g.B.BitBlock.width + p) c.args.blocks.now c.args.from.now _ _ (own g at p within) (other g at p within) (sym (is_one-either _ _ _ _ p c.block_or-used.ensures.of_digits within) ∙ none)

pub returns-else-has_few : goal.returns-else-has_few
returns-else-has_few g c =
    let w = g.B.BitBlock.width in
    let q = c.args.q in
    let from : c.saturating_mul.result ≡ min (q * w) (2 ^ 64 - 1) = c.saturating_mul.ensures ∙ ap (λ b. min (q * b) (2 ^ 64 - 1)) c.bits-width.ensures in
    let to : c.saturating_mul-else-has_few.result ≡ min ((q + 1) * w) (2 ^ 64 - 1) = c.saturating_mul-else-has_few.ensures ∙ ap (λ b. min ((q + 1) * b) (2 ^ 64 - 1)) c.bits-width.ensures in
    copied_saturated g.B.BitBlock.number g.B.BitBlock.is_block (q * w) ((q + 1) * w) (2 ^ 64 - 1) c.args.from.now c.args.blocks.now _ (mul-le-mul_right w (omega arith))
    (omega (arith, c.requires.fits)) c.requires.as_long (rw (from, to) at c.copy_between.ensures)
