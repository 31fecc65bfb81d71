use Rattle.std.proofs.{Common.{◌≡◌, Bool, List, Err, length, ap, ◌∙◌}, lemmas.Result.err_from_is_err_and}
use Rattle.serde_json.specs.View.{view}
use Rattle.bit_blocks.specs.Bits.{Bits, blocks_of}
use Rattle.set_algebra.specs.Sets.{elements, has}
use Rattle.bit_set.{specs.{Entries.numbers_of, Json.Spells}, proofs.JsonLemmas.{fault_of_first, one_fault, one_list, spelt_has_no_fault}}
use Rattle.bit_set.proofs.set.BitSet.from_json.Goals as goal

pub returns-in_err-entries-clause-err : goal.returns-in_err-entries-clause-err
returns-in_err-entries-clause-err g c =
    let p = err_from_is_err_and c.from_residual.result c.from_residual.ensures.1 in
    rw (p.1, p.2) (fault_of_first g.B.BitBlock.width (view c.args.value.now) c.in_err-entries.field-0.0 c.in_err-entries.ensures.err)

pub returns-in_err-entries-clause-fault : goal.returns-in_err-entries-clause-fault
returns-in_err-entries-clause-fault g c fault first =
    let p = err_from_is_err_and c.from_residual.result c.from_residual.ensures.1 in
    p.1 ∙ ap Err (p.2 ∙ one_fault g.B.BitBlock.width (view c.args.value.now) c.in_err-entries.field-0.0 fault c.in_err-entries.ensures.err first)

pub returns-in_err-entries-clause-empty : goal.returns-in_err-entries-clause-empty
returns-in_err-entries-clause-empty g c = λ spelt. absurd (spelt_has_no_fault g.B.BitBlock.width (view c.args.value.now) _ 0 c.in_err-entries.field-0.0 spelt c.in_err-entries.ensures.err)

pub returns-in_err-bits-clause-err : goal.returns-in_err-bits-clause-err
returns-in_err-bits-clause-err g c =
    let p = err_from_is_err_and c.from_residual-in_err-bits.result c.from_residual-in_err-bits.ensures.1 in
    rw (p.1, p.2) (numbers_of c.in_ok-entries.entries.now, c.in_ok-entries.len, c.in_ok-entries.ensures.ok)

pub returns-in_err-bits-clause-fault : goal.returns-in_err-bits-clause-fault
returns-in_err-bits-clause-fault g c fault first = absurd (spelt_has_no_fault g.B.BitBlock.width (view c.args.value.now) _ _ fault c.in_ok-entries.ensures.ok first)

pub returns-clause-fault : goal.returns-clause-fault
returns-clause-fault g c fault first = absurd (spelt_has_no_fault g.B.BitBlock.width (view c.args.value.now) _ _ fault c.in_ok-entries.ensures.ok first)

-- what was written is read again
pub returns-clause-members : goal.returns-clause-members
returns-clause-members g c values other n =
    let w = g.B.BitBlock.width in
    let bits = c.in_ok-bits.bits in
    let spelt : Spells w (view c.args.value.now) (blocks_of w bits.values) (length bits.values) = rw (c.in_ok-bits.ensures.blocks, c.in_ok-bits.ensures.size.long) c.in_ok-entries.ensures.ok in
    let same : c.from_bit_vec_general.result.values ≡ bits.values = ap (λ (b : Bits). b.values) c.from_bit_vec_general.ensures.value in
    ap (λ (list : List Bool). has (elements list) n) (same ∙ one_list w (view c.args.value.now) bits.values values g.met.B.BitBlock.width_law.positive spelt other)
