use Rattle.std.proofs.{Common.{◌≡◌, ◌≤◌, true, false, length, refl, sym, arith, ◌∙◌}, lemmas.Bool.true≢false}
use Rattle.bit_set.specs.{Members.{IsDisjoint, Updates}, Sets.{elements, is_disjoint}}
use Rattle.automata.specs.{Building.Meets, Numbering.set_of}
use Rattle.automata.proofs.{BuildLemmas.{accept_on, accept_past}, StepLemmas.{not_disjoint, shared}}
use Rattle.automata.proofs.subsets.accepting_numbers.Goals as goal
use Rattle.automata.proofs.subsets.accepting_numbers.Goals.{then-not-is_disjoint, else-not-is_disjoint}

pub loop-number-preserved : goal.loop-number-preserved
loop-number-preserved g c =
    let i = c.loop-number.number in
    let sets = c.args.numbering.now in
    let accepting = c.args.nfa.now.accepting in
    let it = c.loop-number.invariant in
    elim c.if-not-is_disjoint.branch [
      | then-not-is_disjoint w ↦
          let apart : false ≡ is_disjoint (set_of sets i) accepting = rw (c.set.ensures, c.accepting.ensures) at w.if-not-is_disjoint.ensures.returned in
          let updates : Updates (elements c.loop-number.numbers.values) (elements w.insert.new.self.values) i true = rw w.unwrap.ensures at w.insert.ensures.members in
          let capacity : w.insert.new.self.capacity ≡ c.loop-number.numbers.capacity = w.insert.ensures.grows.grows.within (omega arith) in
          let larger : length sets ≤ w.insert.new.self.capacity = omega (arith, capacity, it.capacity) in
          record {
            end = it.end;
            capacity = rw w.numbers-is larger;
            members = rw w.numbers-is (accept_on (λ j. Meets (set_of sets j) accepting) _ _ i updates (shared (set_of sets i) accepting (sym apart)) it.members);
          }
      | else-not-is_disjoint w ↦
          let apart : IsDisjoint (set_of sets i) accepting = rw (c.set.ensures, c.accepting.ensures) at (w.if-not-is_disjoint.ensures.members.0 refl) in
          record {
            end = it.end;
            capacity = rw w.numbers-is it.capacity;
            members = rw w.numbers-is (accept_past (λ j. Meets (set_of sets j) accepting) _ i (λ m. not_disjoint (set_of sets i) accepting m.0 m.1 m.2 apart) it.members);
          }
    ]

pub loop-number-init : goal.loop-number-init
loop-number-init g c = record {
  end = c.len-number-end.ensures;
  capacity = omega (arith, c.len.ensures, c.in_ok-numbers.ensures.capacity);
  members = λ i. (λ is_in. absurd (true≢false (sym is_in ∙ c.in_ok-numbers.ensures.members i)), λ p. absurd (omega (arith, p.0)));
}

pub set-requires : goal.set-requires
set-requires g c = omega (arith, c.loop-number-test.true, c.len-number-end.ensures)

pub unwrap-requires : goal.unwrap-requires
unwrap-requires g c = c.insert.ensures.grows.grows.succeeds (omega (arith, c.loop-number-test.true, c.len-number-end.ensures, c.loop-number.invariant.capacity))

pub returns : goal.returns
returns g c =
    let ended : length c.args.numbering.now ≡ c.loop-number.number = omega (arith, c.len-number-end.ensures, c.loop-number-test.false, c.loop-number.auto.number-end) in
    rw ended c.loop-number.invariant.members
