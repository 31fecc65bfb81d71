use Rattle.std.proofs.{Common.{◌≡◌, ◌∷◌, [], ◌++◌, refl, subst, sym, ap, ◌∙◌, append_assoc, rules, arith}, lemmas.Grind.{common_steps, put_four}}
use Rattle.std.specs.{Prelude.{codes, decimal}, List.flat_map, Fmt.HasWritten}
use Rattle.set_algebra.specs.Sets.{elements}
use Rattle.bit_set.proofs.display.BitSetDisplay.fmt.Goals.{in-Some+in_ok-write+in_ok-write_rest, in_default}
use Rattle.bit_set.proofs.display.BitSetDisplay.fmt.Goals as goal

pub returns-clause-writes : goal.returns-clause-writes
returns-clause-writes g c plain ok =
    elim c.match-next.branch [
      | in-Some+in_ok-write+in_ok-write_rest at ↦
          let all : elements c.args.self.now.values ≡ at.in-Some.first ∷ c.next.new.self.left = sym c.iter-rest.ensures.left ∙ at.in-Some.ensures.steps.item in
          let opened = c.in_ok-write_str.ensures.writes plain refl in
          let first = at.in_ok-write.ensures.writes (search rules) refl in
          let others = at.in_ok-write_rest.ensures (search rules) refl in
          let closed = subst (λ f. HasWritten g.W.Write.write_str_gives f (codes "}") c.write_str-2.new.self) at.f-is (c.write_str-2.ensures.writes (rw at.f-is (search rules)) ok) in
          rw all (put_four _ _ _ _ _ _ _ _ _ _ _ opened first others closed
          (ap (λ l. 123 ∷ l) (sym (append_assoc (decimal at.in-Some.first) (flat_map (λ n. codes ", " ++ decimal n) c.next.new.self.left) (125 ∷ [])))))
      | in_default at ↦
          let none : elements c.args.self.now.values ≡ [] = sym c.iter-rest.ensures.left ∙ at.in_default.ensures.steps.item.0 in
          rw none (grind (arith, common_steps))
    ]
