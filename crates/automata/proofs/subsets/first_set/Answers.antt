use Rattle.std.proofs.{Common.{◌≡◌, Err, length, ap, arith}, lemmas.Result.err_from_is_err_and}
use Rattle.bit_set.specs.Sets.{elements}
use Rattle.automata.specs.declared.fault.DfaError.TheVariants.{TooMany}
use Rattle.automata.proofs.BuildLemmas.{builds_first, more_than_none}
use Rattle.automata.proofs.subsets.first_set.Goals as goal

pub returns-in_err-number_of-clause-too_many : goal.returns-in_err-number_of-clause-too_many
returns-in_err-number_of-clause-too_many g c =
    let p = err_from_is_err_and c.from_residual.result c.from_residual.ensures.1 in
    rw (p.1, p.2) (λ is.
    let fault : c.in_err-number_of.field-0.0 ≡ TooMany = cc in
    let full = (c.in_err-number_of.ensures.too_many.0 (ap Err fault)).1 in
    let empty = ap length c.new-numbering.ensures in
    more_than_none c.args.nfa.now (elements c.starts.result.now.values) (c.sets_ascend.ensures.elements c.starts.result.now.values) c.starts.ensures c.args.most (omega (arith, full, empty)))

pub returns-clause-builds : goal.returns-clause-builds
returns-clause-builds g c =
    builds_first c.args.nfa.now (elements c.starts.result.now.values)
    (c.sets_ascend.ensures.elements c.starts.result.now.values) c.starts.ensures _ _
    (rw c.new-numbering.ensures at c.in_ok-number_of.ensures.ok)

-- no set is numbered, so that the starts are new
pub returns-in_err-number_of-clause-no_states : goal.returns-in_err-number_of-clause-no_states
returns-in_err-number_of-clause-no_states g c none =
    let p = err_from_is_err_and c.from_residual.result c.from_residual.ensures.1 in
    let empty = ap length c.new-numbering.ensures in
    let full = c.in_err-number_of.ensures.too_many.1 (λ i lt. absurd (omega (arith, lt, empty)), omega (arith, none)) in
    let fault : c.in_err-number_of.field-0.0 ≡ TooMany = cc in
    rw (p.1, p.2) (ap Err fault)

pub returns-clause-no_states : goal.returns-clause-no_states
returns-clause-no_states g c none =
    let empty = ap length c.new-numbering.ensures in
    let full = c.in_ok-number_of.ensures.too_many.1 (λ i lt. absurd (omega (arith, lt, empty)), omega (arith, none)) in
    cc
