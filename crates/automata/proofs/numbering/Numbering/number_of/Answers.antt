use Rattle.std.proofs.{Common.{◌≤◌, length, refl, sym, ap, ◌∙◌, arith}, lemmas.List.length-map}
use Rattle.bit_set.specs.{Bits.Bits, Sets.elements}
use Rattle.automata.proofs.NumberingLemmas.{is_new, listed, numbers_found}
use Rattle.automata.proofs.numbering.Numbering.number_of.Goals as goal

pub returns-in-Some-clause-ok : goal.returns-in-Some-clause-ok
returns-in-Some-clause-ok g c = rw (← c.self.view_is) (numbers_found _ _ c.self.invariant c.args.set.now c.in-Some.number (sym c.get.ensures.value ∙ sym c.in-Some.ensures))

pub returns-in-Some-clause-too_many : goal.returns-in-Some-clause-too_many
returns-in-Some-clause-too_many g c =
    let met = listed _ _ c.self.invariant c.args.set.now c.in-Some.number (sym c.get.ensures.value ∙ sym c.in-Some.ensures) in
    rw (← c.self.view_is) (λ is. absurd cc, λ new. absurd (new.0 c.in-Some.number met.0 met.1))

pub returns-then-len-most-clause-too_many : goal.returns-then-len-most-clause-too_many
returns-then-len-most-clause-too_many g c =
    let before = ap length c.self.view_is in
    let new = is_new _ _ c.self.invariant c.args.set.now (sym c.get.ensures.value ∙ sym c.in-None.ensures) in
    let full : c.args.most ≤ length c.args.self.now = omega (arith, before, length-map c.self.inside.sets.items (λ (set : Bits). elements set.values), c.len.ensures, c.if-len-most.true) in
    (λ is. (rw (← c.self.view_is) new, full), λ both. refl)

pub add-requires : goal.add-requires
add-requires g c = rw (← c.self.view_is) (is_new _ _ c.self.invariant c.args.set.now (sym c.get.ensures.value ∙ sym c.in-None.ensures))
