use Rattle.std.proofs.Common.{◌≡◌, ap, ◌∙◌}
use Rattle.bit_set.proofs.{CallerLemmas.{gives_left, same_by_members}, SetLemmas.IsAscending-elements, WalkCalls.eq_from_yields_List}
use Rattle.bit_set.specs.Walk.{Walk}
use Rattle.bit_matrix.proofs.CallerLemmas.{gives_row}
use Rattle.bit_matrix.proofs.matrix.BitMatrix.row_equals.Goals as goal

pub returns-clause-returned : goal.returns-clause-returned
returns-clause-returned g c =
    eq_from_yields_List (λ (x y : Walk). y ≡ x) c.iter-2.result c.eq.result c.eq.ensures.ran (gives_row c.iter.result c.iter.ensures.left)
    (λ (it : Walk) (same : it ≡ c.iter-2.result). gives_left _ it (ap (λ (walk : Walk). walk.left) same ∙ c.iter-2.ensures.left))

pub returns-clause-members : goal.returns-clause-members
returns-clause-members g c =
    rw (returns-clause-returned g c) (same_by_members _ _ (c.rows.ensures.matrix.ascends c.args.row) (IsAscending-elements c.args.set.now.values))
