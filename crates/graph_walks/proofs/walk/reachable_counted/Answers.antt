use Rattle.std.proofs.{Common.{◌≡◌, ◌<◌, Err, true, false, eqb, ap, refl, arith}, lemmas.Bool.{eq-eqb, or_left}}
use Rattle.std.proofs.lemmas.Result.{err_from_is_err_and}
use Rattle.bit_set.specs.{Bounds.greatest, Sets.{elements, has}, declared.faults.SetError.TheVariants.Element}
use Rattle.graph_walks.specs.Paths.{here}
use Rattle.graph_walks.proofs.walk.reachable_counted.Goals as goal

pub returns-in_err-insert-clause-element : goal.returns-in_err-insert-clause-element
returns-in_err-insert-clause-element g c =
    let p = err_from_is_err_and c.from_residual.result c.from_residual.ensures.1 in
    rw (p.1, p.2) (λ is. let fault : c.in_err-insert.field-0.0 ≡ Element = cc in rw (c.in_err-insert.ensures.unfit.0 (ap Err fault)) here)

pub returns-clause-no_element : goal.returns-clause-no_element
returns-clause-no_element g c done path =
    let start : has (elements c.insert.new.self.values) c.args.start ≡ true =
    rw (c.in_ok-insert.ensures.elements, c.new_general-reached.ensures.values)
    (or_left (eqb c.args.start c.args.start) false (eq-eqb c.args.start c.args.start refl)) in
    let low : greatest < greatest = c.bounded.ensures.low greatest ((c.in_ok-explore.ensures.paths greatest).1 (c.args.start, start, path)) in
    absurd (omega arith)
