use Rattle.std.proofs.Common.{◌≡◌, ℕ, ◌+◌, ◌-◌, ◌*◌, ◌/◌, ◌%◌, ◌<◌, ◌≤◌, ◌∙◌, false, true, ap, get_or, length, map, sym, arith, ⊎_elim, div-lt_iff_lt-mul}
use Rattle.std.proofs.lemmas.{Bool.{cases_lt, false≢true}, List.length-map, Nat.le-div}
use Rattle.bit_blocks.{specs.{Digits.is_one, Storage.value_at}, proofs.{StorageLemmas.{value_at-is, value_at-past}, ZeroLemmas.front_read}}
use Rattle.bit_words.proofs.ComparedLemmas.{both_zero, for_none, from_none, in_both}
use Rattle.bit_words.proofs.summary.comparing.mismatch_in_part.{Given.Over, Goals.After-split_at}
use Rattle.bit_words.proofs.summary.comparing.mismatch_in_part.Goals as goal

-- in the chunks that are alike the front of the summary reads as the summary
read : (g : Over) (c : After-split_at g) (k : ℕ) → k / g.B.BitBlock.width < c.min-own.result
    → value_at g.B.BitBlock.width (map g.B.BitBlock.number c.split_at.result.0.now) k ≡ value_at g.B.BitBlock.width (map g.B.BitBlock.number c.args.summary.now) k
read g c k below =
    let w = g.B.BitBlock.width in
    let number = g.B.BitBlock.number in
    value_at-is w (map number c.split_at.result.0.now) k
    ∙ ap (λ m. is_one m (k % w)) (ap (λ xs. get_or (map number xs) (k / w) 0) c.split_at.ensures.front ∙ front_read w number g.B.BitBlock.is_block c.args.summary.now c.min-own.result (k / w) below)
    ∙ sym (value_at-is w (map number c.args.summary.now) k)

-- the summaries are alike there
alike : (g : Over) (c : After-split_at g) (k : ℕ) → c.args.first * g.B.BitBlock.width ≤ k → k / g.B.BitBlock.width < c.chunks_alike-alike.result
    → get_or (map g.B.BitBlock.number c.args.summary.now) (k / g.B.BitBlock.width) 0 ≡ get_or (map g.B.BitBlock.number c.args.other_summary.now) (k / g.B.BitBlock.width) 0
alike g c k reached below =
    let w = g.B.BitBlock.width in
    c.chunks_alike-alike.ensures.alike (k / w) (le-div c.args.first k w g.met.B.BitBlock.width_law.positive reached) below

pub mismatch_in_runs-found-requires-clause-in_both : goal.mismatch_in_runs-found-requires-clause-in_both
mismatch_in_runs-found-requires-clause-in_both g c = λ k reached some.
    let at = (goal.at.mismatch_in_runs-found-requires-clause-in_both g c).After-split_at in
    let w = g.B.BitBlock.width in
    let number = g.B.BitBlock.number in
    let front = c.split_at.result.0.now in
    let below : k / w < c.min-own.result =
    ⊎_elim
    (λ low. low)
    (λ (past : c.min-own.result ≤ k / w). absurd (false≢true (sym (value_at-past w (map number front) k (rw length-map (omega (arith, past, c.split_at.ensures.front_len)))) ∙ some)))
    (cases_lt (k / w) c.min-own.result) in
    in_both w number g.B.BitBlock.is_block c.args.blocks.now c.args.others.now c.args.summary.now c.args.other_summary.now g.met.B.BitBlock.width_law.positive c.requires.summary
    c.requires.other_summary k (alike g at k reached (omega (arith, below, c.min-own.ensures))) (sym (read g at k below) ∙ some)

pub mismatch_in_runs-found-requires-clause-zeros : goal.mismatch_in_runs-found-requires-clause-zeros
mismatch_in_runs-found-requires-clause-zeros g c = λ k reached within none.
    let at = (goal.at.mismatch_in_runs-found-requires-clause-zeros g c).After-split_at in
    let w = g.B.BitBlock.width in
    let pos = g.met.B.BitBlock.width_law.positive in
    let below : k / w < c.min-own.result = omega (arith, (div-lt_iff_lt-mul pos).1 within, c.split_at.ensures.front_len) in
    both_zero w g.B.BitBlock.number g.B.BitBlock.is_block c.args.blocks.now c.args.others.now c.args.summary.now c.args.other_summary.now pos c.requires.summary c.requires.other_summary k
    (alike g at k reached (omega (arith, below, c.min-own.ensures))) (sym (read g at k below) ∙ none)

-- up to the first chunk that is not alike, or the end, all are the same, by the zeros of the other list past the summary
pub mismatch_in_chunks-requires-clause-before : goal.mismatch_in_chunks-requires-clause-before
mismatch_in_chunks-requires-clause-before g c = λ k below.
    let at = (goal.at.mismatch_in_chunks-requires-clause-before g c).After-split_at in
    let w = g.B.BitBlock.width in
    let number = g.B.BitBlock.number in
    let pos = g.met.B.BitBlock.width_law.positive in
    let same = from_none c.mismatch_in_runs-found.result _ _ (sym c.is_some.ensures ∙ c.if-is_some.false) c.mismatch_in_runs-found.ensures in
    ⊎_elim
    (same k)
    (λ (past : length c.split_at.result.0.now * w ≤ k).
    ⊎_elim
    (c.requires.before k)
    (λ reached.
    let chunk : k / w < c.chunks_alike-alike.result = (div-lt_iff_lt-mul pos).1 below in
    let beyond : length c.args.summary.now ≤ k / w = omega (arith, le-div (length c.split_at.result.0.now) k w pos past, c.split_at.ensures.front_len, chunk, c.min-own.ensures) in
    both_zero w number g.B.BitBlock.is_block c.args.blocks.now c.args.others.now c.args.summary.now c.args.other_summary.now pos c.requires.summary c.requires.other_summary k
    (alike g at k reached chunk) (value_at-past w (map number c.args.summary.now) k (rw length-map beyond)))
    (cases_lt k (c.args.first * w)))
    (cases_lt k (length c.split_at.result.0.now * w))

pub returns : goal.returns
returns g c =
    let w = g.B.BitBlock.width in
    let alike_end : (c.chunks_alike-alike.result + (c.args.end - c.chunks_alike-alike.result)) * w ≡ c.args.end * w = ap (λ n. n * w) (omega (arith, c.chunks_alike-alike.ensures.within)) in
    for_none c.mismatch_in_chunks.result _ _ _ (λ each k below. each k (omega (arith, below, alike_end))) c.mismatch_in_chunks.ensures
