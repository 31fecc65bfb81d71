use Rattle.std.proofs.{Common.{length, sym, arith}, lemmas.Bool.true≢false}
use Rattle.bit_words.proofs.{CapacityLemmas.capacity_of_copy, SummaryLemmas.{none_stored, stored_length}}
use Rattle.bit_words.proofs.bit_vec.BitVec.clone.Goals as goal

pub returns-in_err-blocks-clause-empty : goal.returns-in_err-blocks-clause-empty
returns-in_err-blocks-clause-empty g c = λ none.
    let empty = none_stored _ _ _ _ _ _ _ _ g.met.B.BitBlock.width_law.positive c.self.invariant c.self.view_is none in
    absurd (true≢false (sym (c.in_err-blocks.ensures.empty (omega (arith, empty)))))

pub returns-in_err-summary-clause-empty : goal.returns-in_err-summary-clause-empty
returns-in_err-summary-clause-empty g c = λ none.
    let empty = none_stored _ _ _ _ _ _ _ _ g.met.B.BitBlock.width_law.positive c.self.invariant c.self.view_is none in
    absurd (true≢false (sym (c.in_err-summary.ensures.empty (omega (arith, empty)))))

pub returns-clause-capacity : goal.returns-clause-capacity
returns-clause-capacity g c =
    capacity_of_copy g.B.BitBlock.width _ _ (length c.self.inside.blocks.items) _ _ _ _ g.met.B.BitBlock.width_law.positive c.self.view_is c.self.invariant.packed.count
    (omega (arith, c.in_ok-blocks.ensures.capacity, c.deref.ensures.len))
    (omega (arith, c.in_ok-summary.ensures.capacity, c.deref-2.ensures.len, stored_length _ _ _ _ _ c.self.invariant.summary))
