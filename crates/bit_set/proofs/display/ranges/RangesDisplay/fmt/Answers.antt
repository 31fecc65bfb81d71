use Rattle.std.proofs.{Common.{◌≡◌, ◌∷◌, [], length, refl, sym, ap, ◌∙◌, rules}, lemmas.Grind.{put_two}}
use Rattle.set_algebra.{specs.{Ranges.those_in_range, Runs.runs_of, Sets.elements}, proofs.RunLemmas.whole_range}
use Rattle.bit_set.proofs.display.ranges.RangesDisplay.fmt.Goals.{After-runs-rest}
use Rattle.bit_set.proofs.display.ranges.RangesDisplay.fmt.Goals as goal

-- the runs that are walked over are all
whole : (g : _) (c : After-runs-rest g) → runs_of c.runs-rest.result.members ≡ runs_of c.args.self.now
whole g c =
    let values = c.self.inside.set.now.values in
    c.runs-rest.ensures.left ∙ ap (λ n. runs_of (those_in_range (elements values) 0 n)) (c.len.ensures.value ∙ ap (λ s. length s.values) c.get_ref.ensures)
    ∙ ap runs_of (whole_range values)
    ∙ ap runs_of c.self.view_is

pub returns-in_default-clause-writes : goal.returns-in_default-clause-writes
returns-in_default-clause-writes g c plain ok =
    let none : runs_of c.args.self.now ≡ [] = sym (whole g (goal.at.returns-in_default-clause-writes g c).After-runs-rest) ∙ c.in_default.ensures.steps.item.0 in rw none (search rules)

pub returns-clause-writes : goal.returns-clause-writes
returns-clause-writes g c plain ok =
    let all : runs_of c.args.self.now ≡ c.in-Some.first ∷ runs_of c.next.new.self.members = sym (whole g (goal.at.returns-clause-writes g c).After-runs-rest) ∙ c.in-Some.ensures.steps.item in
    rw all (put_two _ _ _ _ _ _ _ (c.in_ok-write_run.ensures plain refl) (c.write_rest.ensures (search rules) ok) refl)
