use Rattle.std.proofs.Common.{◌≡◌, ◌<◌, Err, true, ap, refl, sym, true≢false, ◌∙◌, arith}
use Rattle.std.proofs.lemmas.Result.{err_from_is_err_and}
use Rattle.bit_set.specs.{Bounds.greatest, Sets.{elements, has}, declared.faults.SetError.TheVariants.Element}
use Rattle.graph_walks.proofs.walk.reachable_from_any_counted.Goals as goal

pub returns-clause-no_element : goal.returns-clause-no_element
returns-clause-no_element g c done s start path =
    let first : has (elements c.in_ok-reached.reached.values) s ≡ true = ap (λ values. has (elements values) s) c.in_ok-reached.ensures.values ∙ start in
    let low : greatest < greatest = c.bounded.ensures.low greatest ((c.in_ok-explore.ensures.paths greatest).1 (s, first, path)) in
    absurd (omega arith)

pub returns-clause-paths : goal.returns-clause-paths
returns-clause-paths g c = rw c.in_ok-reached.ensures.values at c.in_ok-explore.ensures.paths

pub returns-clause-nodes : goal.returns-clause-nodes
returns-clause-nodes g c = c.in_ok-explore.ensures.nodes

pub returns-clause-edges : goal.returns-clause-edges
returns-clause-edges g c = c.in_ok-explore.ensures.edges

pub returns-clause-none : goal.returns-clause-none
returns-clause-none g c _ = refl

pub returns-in_err-explore-clause-element : goal.returns-in_err-explore-clause-element
returns-in_err-explore-clause-element g c =
    let p = err_from_is_err_and c.from_residual-in_err-explore.result c.from_residual-in_err-explore.ensures.1 in
    rw (p.1, p.2) (λ is. let fault : c.in_err-explore.field-0.0 ≡ Element = cc in rw c.in_ok-reached.ensures.values at (c.in_err-explore.ensures.element (ap Err fault)))

pub returns-in_err-explore-clause-fits : goal.returns-in_err-explore-clause-fits
returns-in_err-explore-clause-fits g c =
    let p = err_from_is_err_and c.from_residual-in_err-explore.result c.from_residual-in_err-explore.ensures.1 in
    rw (p.1, p.2) c.in_err-explore.ensures.fits

pub returns-in_err-explore-clause-none : goal.returns-in_err-explore-clause-none
returns-in_err-explore-clause-none g c none = absurd (true≢false (sym (c.if-is_empty.ensures.elements.1 none)))

pub returns-in_err-reached-clause-none : goal.returns-in_err-reached-clause-none
returns-in_err-reached-clause-none g c none = absurd (true≢false (sym (c.if-is_empty.ensures.elements.1 none)))

pub returns-in_err-stack-clause-none : goal.returns-in_err-stack-clause-none
returns-in_err-stack-clause-none g c none = absurd (true≢false (sym (c.if-is_empty.ensures.elements.1 none)))

pub returns-in_err-reached-clause-element : goal.returns-in_err-reached-clause-element
returns-in_err-reached-clause-element g c = let p = err_from_is_err_and c.from_residual.result c.from_residual.ensures.1 in rw (p.1, p.2) (λ is. cc)

pub returns-in_err-reached-clause-fits : goal.returns-in_err-reached-clause-fits
returns-in_err-reached-clause-fits g c = let p = err_from_is_err_and c.from_residual.result c.from_residual.ensures.1 in rw (p.1, p.2) (λ is. cc)

pub returns-in_err-stack-clause-element : goal.returns-in_err-stack-clause-element
returns-in_err-stack-clause-element g c = let p = err_from_is_err_and c.from_residual-in_err-stack.result c.from_residual-in_err-stack.ensures.1 in rw (p.1, p.2) (λ is. cc)

pub returns-in_err-stack-clause-fits : goal.returns-in_err-stack-clause-fits
returns-in_err-stack-clause-fits g c = let p = err_from_is_err_and c.from_residual-in_err-stack.result c.from_residual-in_err-stack.ensures.1 in rw (p.1, p.2) (λ is. cc)
