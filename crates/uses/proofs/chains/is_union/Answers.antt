use Rattle.std.proofs.Common.{◌≡◌, ap, ◌∙◌}
use Rattle.bit_set.proofs.CallerLemmas.{gives_left}
use Rattle.bit_set.proofs.WalkCalls.{eq_from_yields_List, gives_left_of_two}
use Rattle.bit_set.specs.Walk.{Walk}
use Rattle.uses.proofs.chains.is_union.Goals as goal

pub returns : goal.returns
returns g c =
    eq_from_yields_List (λ (x y : Walk). y ≡ x) c.iter.result c.eq.result c.eq.ensures.ran (gives_left_of_two _ c.union.result c.union.ensures.left)
    (λ (it : Walk) (same : it ≡ c.iter.result). gives_left _ it (ap (λ (w : Walk). w.left) same ∙ c.iter.ensures.left))
