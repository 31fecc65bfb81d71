use Rattle.std.proofs.{Common.{◌∙◌, length, vec_capacity, Result, OnOk, Ok, Err, arith}, lemmas.Result.on_err_weaker}
use Rattle.bit_words.proofs.CapacityLemmas.{capacity_kept, capacity_raised, shared_whole, stored_from_shared}
use Rattle.bit_words.proofs.summary.copies.copy_both_general.Goals as goal

both_on_ok : {T E P Q R : Type 0} (r : Result T E) → (P → Q → R) → OnOk r P → OnOk r Q → OnOk r R
both_on_ok (Ok x) f p q = f p q
both_on_ok (Err e) f p q = tt

pub copy_past_zeros-requires-clause-capacity : goal.copy_past_zeros-requires-clause-capacity
copy_past_zeros-requires-clause-capacity g c = omega (arith, c.have_capacity.ensures.yes c.if-have_capacity.true)

pub copy_blocks-requires : goal.copy_blocks-requires
copy_blocks-requires g c =
    let enough = c.have_capacity.ensures.yes c.if-have_capacity.true in
    let stored = stored_from_shared g.B.BitBlock.width (vec_capacity c.args.blocks.now) (vec_capacity c.args.summary.now) (length c.args.from.now) g.met.B.BitBlock.width_law.positive enough in
    omega (arith, stored, c.requires.count)

pub returns-then-have_capacity-clause-items : goal.returns-then-have_capacity-clause-items
returns-then-have_capacity-clause-items g c = c.copy_past_zeros.ensures.items

pub returns-then-have_capacity-clause-summary : goal.returns-then-have_capacity-clause-summary
returns-then-have_capacity-clause-summary g c = c.copy_blocks.ensures.items

pub returns-then-have_capacity-clause-exact : goal.returns-then-have_capacity-clause-exact
returns-then-have_capacity-clause-exact g c =
    rw (c.copy_past_zeros.ensures.capacity, c.copy_blocks.ensures.capacity) (capacity_kept _ _ (c.have_capacity.ensures.yes c.if-have_capacity.true))

pub returns-clause-items : goal.returns-clause-items
returns-clause-items g c = c.replace_both.ensures.items

pub returns-clause-summary : goal.returns-clause-summary
returns-clause-summary g c = c.replace_both.ensures.summary

pub returns-clause-exact : goal.returns-clause-exact
returns-clause-exact g c =
    both_on_ok c.replace_both.result (λ first second.
    shared_whole g.B.BitBlock.width (length c.args.from.now) _ _ g.met.B.BitBlock.width_law.positive first (second ∙ c.requires.count)
    ∙ capacity_raised _ _ (c.have_capacity.ensures.no c.if-have_capacity.false)) c.replace_both.ensures.capacity c.replace_both.ensures.summary_capacity

pub returns-clause-err : goal.returns-clause-err
returns-clause-err g c = c.replace_both.ensures.err

pub returns-clause-err_summary : goal.returns-clause-err_summary
returns-clause-err_summary g c = c.replace_both.ensures.err_summary

pub returns-clause-full : goal.returns-clause-full
returns-clause-full g c = on_err_weaker c.replace_both.result (λ _. c.have_capacity.ensures.no c.if-have_capacity.false) c.replace_both.ensures.err
