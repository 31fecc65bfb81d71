use Rattle.std.proofs.Common.{◌≡◌, Bool, List, ap, ◌∙◌, arith}
use Rattle.std.proofs.lemmas.Bool.Decides.{nat_tests}
use Rattle.set_algebra.proofs.{CallerLemmas.same_by_members, SetLemmas.{AscendsFrom-filter, IsAscending-elements, has-filter}}
use Rattle.bit_blocks.specs.Ranges.{in_range}
use Rattle.set_algebra.specs.Sets.{elements}
use Rattle.bit_set.proofs.{CallerLemmas.gives_left, WalkCalls.eq_from_yields_List}
use Rattle.bit_set.specs.Walk.{Walk}
use Rattle.bit_set.proofs.set.BitSet.same_in_range.Goals as goal

pub returns : goal.returns
returns g c =
    let within = in_range c.args.range.start c.args.range.end in
    let a = elements c.args.self.now.values in
    let b = elements c.args.other.now.values in
    let lists = eq_from_yields_List (λ (x y : Walk). y ≡ x) c.range-2.result c.eq.result c.eq.ensures.ran (gives_left _ c.range.result c.range.ensures.left)
    (λ (it : Walk) (same : it ≡ c.range-2.result). gives_left _ it (ap (λ (walk : Walk). walk.left) same ∙ c.range-2.ensures.left)) in
    let ascending = λ (values : List Bool). AscendsFrom-filter 0 within (elements values) (IsAscending-elements values) in
    let members = same_by_members _ _ (ascending c.args.self.now.values) (ascending c.args.other.now.values) in
    rw lists (
      (λ is n from to. let here = members.0 is n in grind (arith, nat_tests, has-filter within a n, has-filter within b n)),
      (λ alike. members.1 (λ n. let here = alike n in grind (arith, nat_tests, has-filter within a n, has-filter within b n))),
    )
