use Rattle.std.proofs.{Common.{◌≡◌, [], Err, ap}, lemmas.Result.err_from_is_err_and}
use Rattle.automata.specs.declared.fault.DfaError.TheVariants.{TooMany}
use Rattle.automata.proofs.{BuildLemmas.{is_subset_table, is_table, same_words}, CountLemmas.no_more}
use Rattle.automata.proofs.subsets.determinize.Goals as goal

pub invariant_of-result : goal.invariant_of-result
invariant_of-result g c = rw (c.len.ensures, c.symbols.ensures) (is_table c.args.nfa.now _ _ c.in_ok-next.ensures.builds c.in_ok-next.ensures.whole)

pub returns-clause-words : goal.returns-clause-words
returns-clause-words g c = rw c.symbols.ensures (same_words c.args.nfa.now _ _ c.in_ok-next.ensures.builds c.in_ok-next.ensures.whole _ c.in_ok-accepting.ensures)

pub returns-clause-sets : goal.returns-clause-sets
returns-clause-sets g c = rw (c.len.ensures, c.symbols.ensures) (c.fill.new.numbering, is_subset_table c.args.nfa.now _ _ c.in_ok-next.ensures.builds c.in_ok-next.ensures.whole _)

pub returns-clause-no_more : goal.returns-clause-no_more
returns-clause-no_more g c done more =
    let sets = c.fill.new.numbering in
    let t = is_subset_table c.args.nfa.now sets _ c.in_ok-next.ensures.builds c.in_ok-next.ensures.whole [] in
    no_more c.args.nfa.now _ sets t c.args.most_states more c.in_ok-next.ensures.few

pub returns-in_err-numbering-clause-no_states : goal.returns-in_err-numbering-clause-no_states
returns-in_err-numbering-clause-no_states g c none =
    let p = err_from_is_err_and c.from_residual.result c.from_residual.ensures.1 in
    let full = c.in_err-numbering.ensures.no_states none in
    let fault : c.in_err-numbering.field-0.0 ≡ TooMany = cc in
    rw (p.1, p.2) (ap Err fault)

pub returns-in_err-next-clause-no_states : goal.returns-in_err-next-clause-no_states
returns-in_err-next-clause-no_states g c none = let wrong = c.in_ok-numbering.ensures.no_states none in cc

pub returns-in_err-accepting-clause-no_states : goal.returns-in_err-accepting-clause-no_states
returns-in_err-accepting-clause-no_states g c none = let wrong = c.in_ok-numbering.ensures.no_states none in cc

pub returns-clause-no_states : goal.returns-clause-no_states
returns-clause-no_states g c none = let wrong = c.in_ok-numbering.ensures.no_states none in cc
