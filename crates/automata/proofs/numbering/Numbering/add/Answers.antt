use Rattle.std.proofs.{Common.{◌≡◌, ◌++◌, ◌∷◌, [], length, ap, arith}, lemmas.List.{length-map, length_push}}
use Rattle.bit_set.specs.{Bits.Bits, Sets.elements}
use Rattle.automata.specs.{Numbering.{IsNew, Numbers}, Runs.row_of_sets}
use Rattle.automata.proofs.NumberingLemmas.{finds_on, not_found, numbers_new, pushed}
use Rattle.automata.proofs.numbering.Numbering.add.Goals as goal

pub invariant_of-self-in_err-insert : goal.invariant_of-self-in_err-insert
invariant_of-self-in_err-insert g c = rw (c.in_err-insert.ensures.err, c.reserve.ensures.items) c.self.invariant

pub invariant_of-self-2 : goal.invariant_of-self-2
invariant_of-self-2 g c =
    let sets = c.self.inside.sets.items in
    let new : IsNew (row_of_sets sets) (elements c.args.set.now.values) = rw (← c.self.view_is) at c.requires in
    let none = not_found _ _ c.self.invariant c.args.set.now new in
    let key : elements c.in_ok-key.key.values ≡ elements c.args.set.now.values = ap (λ v. elements v) c.in_ok-key.ensures.values in
    let copy : elements c.in_ok-copy.copy.values ≡ elements c.args.set.now.values = ap (λ v. elements v) c.in_ok-copy.ensures.values in
    let as_many : c.len-number.result ≡ length (row_of_sets sets) = omega (arith, c.len-number.ensures, length-map sets (λ (set : Bits). elements set.values)) in
    let list : row_of_sets c.push_reserved.new.self.items ≡ row_of_sets sets ++ elements c.args.set.now.values ∷ [] =
    pushed sets c.reserve.new.self.items c.push_reserved.new.self.items c.in_ok-copy.copy
    (elements c.args.set.now.values) c.push_reserved.ensures.items c.reserve.ensures.items copy in
    let updates = rw key at c.in_ok-insert.ensures.updates.0 in
    rw list (finds_on _ _ c.self.invariant c.sets_compare.ensures.equal c.sets_compare.ensures.same c.args.set.now c.len-number.result as_many none _ updates)

pub returns-clause-ok : goal.returns-clause-ok
returns-clause-ok g c =
    let sets = c.self.inside.sets.items in
    let new : IsNew (row_of_sets sets) (elements c.args.set.now.values) = rw (← c.self.view_is) at c.requires in
    let none = not_found _ _ c.self.invariant c.args.set.now new in
    let copy : elements c.in_ok-copy.copy.values ≡ elements c.args.set.now.values = ap (λ v. elements v) c.in_ok-copy.ensures.values in
    let as_many : c.len-number.result ≡ length (row_of_sets sets) = omega (arith, c.len-number.ensures, length-map sets (λ (set : Bits). elements set.values)) in
    let list : row_of_sets c.push_reserved.new.self.items ≡ row_of_sets sets ++ elements c.args.set.now.values ∷ [] =
    pushed sets c.reserve.new.self.items c.push_reserved.new.self.items c.in_ok-copy.copy
    (elements c.args.set.now.values) c.push_reserved.ensures.items c.reserve.ensures.items copy in
    let numbered : Numbers (row_of_sets sets) (elements c.args.set.now.values) c.len-number.result
    (row_of_sets c.push_reserved.new.self.items) = rw list
    (numbers_new _ _ c.self.invariant c.args.set.now c.len-number.result as_many none) in
    rw (← c.self.view_is) numbered

pub invariant_of-self : goal.invariant_of-self
invariant_of-self g c = rw c.reserve.ensures.items c.self.invariant

pub returns-clause-longer : goal.returns-clause-longer
returns-clause-longer g c =
    let list = length-map c.push_reserved.new.self.items (λ (set : Bits). elements set.values) in
    let kept = ap length c.reserve.ensures.items in
    let one_more = ap length c.push_reserved.ensures.items in
    let before = ap length c.self.view_is in
    let as_many = length-map c.self.inside.sets.items (λ (set : Bits). elements set.values) in
    omega (arith, list, kept, one_more, length_push c.reserve.new.self.items c.in_ok-copy.copy, before, as_many)
