use Rattle.std.proofs.{Common.{◌≡◌, [], sym, ap, ◌∙◌, arith}, lemmas.Bool.{eqb-true, true≢false}}
use Rattle.std.proofs.lemmas.List.{nil_from_length}
use Rattle.bit_set.specs.Sets.{elements}
use Rattle.automata.{specs.Runs.{Automaton, IsEnd, rows_of_sets}, proofs.StepLemmas.{accepted, end_none}}
use Rattle.automata.proofs.nfa.accepts.Goals as goal

pub returns-then-is_empty-clause-accepted : goal.returns-then-is_empty-clause-accepted
returns-then-is_empty-clause-accepted g c =
    let moves = rows_of_sets c.nfa.inside.moves.items in
    let starts = elements c.nfa.inside.starts.values in
    let empty : c.args.word.now ≡ [] = nil_from_length c.args.word.now (eqb-true _ _ (sym c.is_empty.ensures ∙ c.if-is_empty.true)) in
    rw (← c.nfa.view_is, empty)
    (accepted (record { moves = moves; starts = starts; accepting = elements c.nfa.inside.accepting.values; longest = c.nfa.inside.longest }) [] starts c.is_disjoint.result
    (end_none moves starts) c.is_disjoint.ensures.returned c.is_disjoint.ensures.members)

pub returns-in_err-states-clause-no_length : goal.returns-in_err-states-clause-no_length
returns-in_err-states-clause-no_length g c none = absurd (true≢false (sym (c.in_err-states.ensures.empty (ap (λ (n : Automaton). n.longest) c.nfa.view_is ∙ none))))

pub returns-in_err-next-clause-no_length : goal.returns-in_err-next-clause-no_length
returns-in_err-next-clause-no_length g c none = absurd (true≢false (sym (c.in_err-next.ensures.empty (ap (λ (n : Automaton). n.longest) c.nfa.view_is ∙ none))))

pub unwrap-requires : goal.unwrap-requires
unwrap-requires g c = c.clone_from.ensures.grows.succeeds (omega (arith, c.nfa.invariant.starts_too, c.in_ok-states.ensures.capacity))

pub returns-clause-accepted : goal.returns-clause-accepted
returns-clause-accepted g c =
    let moves = rows_of_sets c.nfa.inside.moves.items in
    let starts = elements c.nfa.inside.starts.values in
    let start : elements c.clone_from.new.self.values ≡ starts = ap (λ v. elements v) (rw c.unwrap.ensures at c.clone_from.ensures.ok) in
    let end : IsEnd moves starts c.args.word.now (elements c.follow.new.states.values) = rw (← start, ← c.as_slice.ensures.value) c.follow.ensures in
    rw (← c.nfa.view_is)
    (accepted (record { moves = moves; starts = starts; accepting = elements c.nfa.inside.accepting.values; longest = c.nfa.inside.longest }) c.args.word.now _ c.is_disjoint-2.result end
    c.is_disjoint-2.ensures.returned c.is_disjoint-2.ensures.members)

pub follow-requires-clause-states : goal.follow-requires-clause-states
follow-requires-clause-states g c = rw c.as_slice.ensures.value (λ symbol u. omega (arith, c.nfa.invariant.all symbol u, c.in_ok-states.ensures.capacity, c.clone_from.ensures.grows.capacity))

pub follow-requires-clause-next : goal.follow-requires-clause-next
follow-requires-clause-next g c = rw c.as_slice.ensures.value (λ symbol u. omega (arith, c.nfa.invariant.all symbol u, c.in_ok-next.ensures.capacity))
