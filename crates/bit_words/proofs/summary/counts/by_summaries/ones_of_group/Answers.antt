use Rattle.std.proofs.Common.{◌≤◌, ◌+◌, ◌∙◌, length, map, get_or, max, sym, arith, ⊎_elim}
use Rattle.std.proofs.lemmas.Bool.{cases_lt, false≢true}
use Rattle.bit_words.proofs.{MergedOnesLemmas.chunk_none, SummaryLemmas.{stored_digits, stored_few}}
use Rattle.bit_words.proofs.summary.counts.by_summaries.ones_of_group.Goals as goal

pub ones_of_used_chunks-requires-clause-covers : goal.ones_of_used_chunks-requires-clause-covers
ones_of_used_chunks-requires-clause-covers g c =
    let w = g.B.BitBlock.width in
    let number = g.B.BitBlock.number in
    let used = c.used_chunks-used.ensures in
    record {
      none = λ j below zero.
          let q = c.args.first + j in
          chunk_none g.O.Operation.merge w _ _ q (get_or (map number c.args.summary.now) q 0) (get_or (map number c.args.other_summary.now) q 0)
          (stored_digits w number _ _ _ q c.requires.summary (omega (arith, c.requires.in_summary)))
          (stored_digits w number _ _ _ q c.requires.other_summary (omega (arith, c.requires.in_other)))
          (λ p index. used.none j p below zero index);
      within = λ j index one.
          ⊎_elim
          (λ below. below)
          (λ past. absurd (false≢true (sym (used.past j past index) ∙ one)))
          (cases_lt j c.args.count);
    }

pub ones_of_used_chunks-requires-clause-in_blocks : goal.ones_of_used_chunks-requires-clause-in_blocks
ones_of_used_chunks-requires-clause-in_blocks g c =
    let few = stored_few g.B.BitBlock.width _ g.B.BitBlock.number _ _ _ g.met.B.BitBlock.width_law.positive
    c.requires.summary (let e : length c.args.blocks.now ≤ max (length c.args.blocks.now)
    (length c.args.others.now) = omega arith in e) in
    omega (arith, few, c.requires.in_summary)

pub ones_of_chunks-requires-clause-in_blocks : goal.ones_of_chunks-requires-clause-in_blocks
ones_of_chunks-requires-clause-in_blocks g c =
    let few = stored_few g.B.BitBlock.width _ g.B.BitBlock.number _ _ _ g.met.B.BitBlock.width_law.positive
    c.requires.summary (let e : length c.args.blocks.now ≤ max (length c.args.blocks.now)
    (length c.args.others.now) = omega arith in e) in
    omega (arith, few, c.requires.in_summary)
