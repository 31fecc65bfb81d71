use Rattle.std.proofs.{Common.{subst, sym, ◌∙◌}, lemmas.Result.err_from_is_err_and}
use Rattle.bit_set.proofs.RangeTextLemmas.{EndsAt, ends_all, ends_fault, ends_first, ends_more, next_items}
use Rattle.bit_set.proofs.range_texts.end_of_ranges.Goals as goal

pub items-init : goal.items-init
items-init c = ends_first c.args.text.now c.all_items-rest.result c.all_items-rest.ensures.some
    c.all_items-rest.ensures.none

pub items-preserved : goal.items-preserved
items-preserved c =
    let text = c.args.text.now in
    let items = next_items c.in-Some.items.now c.first_item.result.0.now c.first_item.result.1
    c.first_item.ensures.items in
    let ends = subst (λ is. EndsAt text is c.items.end) items (rw c.in-Some.is at c.items.invariant) in
    rw c.max-end.ensures (ends_more text c.first_item.result.0.now _ c.items.end c.in_ok-read_range.field-0 ends
    (sym c.read_range.ensures ∙ c.in_ok-read_range.was))

pub returns-in_err-read_range-clause-fault : goal.returns-in_err-read_range-clause-fault
returns-in_err-read_range-clause-fault c =
    let text = c.args.text.now in
    let items = next_items c.in-Some.items.now c.first_item.result.0.now c.first_item.result.1
    c.first_item.ensures.items in
    let ends = subst (λ is. EndsAt text is c.items.end) items (rw c.in-Some.is at c.items.invariant) in
    let p = err_from_is_err_and c.from_residual.result c.from_residual.ensures.1 in
    rw (p.1, p.2) (ends_fault text c.first_item.result.0.now _ c.items.end _ ends
    (sym c.read_range.ensures ∙ c.in_err-read_range.was))

pub returns-clause-read : goal.returns-clause-read
returns-clause-read c = ends_all c.args.text.now c.items.end (rw c.in_default.is at c.items.invariant)
