use Rattle.std.proofs.Common.{◌≡◌, ◌+◌, ◌*◌, ◌<◌, ◌∙◌, ap, below_more, length, arith}
use Rattle.automata.specs.{Pairs.symbols_of, Searching.Spells}
use Rattle.automata.proofs.PairLemmas.{agree_at, all_the_same, differ_at, explored_none}
use Rattle.automata.proofs.equivalence.equivalent.Goals as goal

pub returns-then-is_accepting-clause-differ : goal.returns-then-is_accepting-clause-differ
returns-then-is_accepting-clause-differ g c =
    let queue = c.loop-done.queue.items in
    let word = c.in_ok-word_of.field-0.items in
    let lt : c.loop-done.done < length queue = omega (arith, c.len.ensures, c.loop-done-test.true) in
    let spells : Spells queue c.loop-done.done word = rw c.as_slice.ensures.value at c.in_ok-word_of.ensures in
    differ_at c.args.a.now c.args.b.now queue _ _ c.loop-done.invariant.explores c.loop-done.done c.index-pair.result.now
    c.is_accepting.result c.is_accepting-in-loop-done.result word lt c.index-pair.ensures c.is_accepting.ensures
    c.is_accepting-in-loop-done.ensures c.if-is_accepting.true spells c.states.ensures.table c.states-2.ensures.table

pub loop-done-preserved : goal.loop-done-preserved
loop-done-preserved g c =
    let it = c.loop-done.invariant in
    let after = c.in_ok-add_successors.ensures in
    let old = c.loop-done.queue.items in
    let lt : c.loop-done.done < length old = omega (arith, c.len.ensures, c.loop-done-test.true) in
    let agree = agree_at c.args.a.now c.args.b.now old c.loop-done.done c.index-pair.result.now c.is_accepting.result
    c.is_accepting-in-loop-done.result lt c.index-pair.ensures c.is_accepting.ensures c.is_accepting-in-loop-done.ensures
    c.if-is_accepting.false in
    record {
      inside = omega (arith, after.more, lt);
      places = after.places;
      explores = after.explores;
      agree = below_more _ _ (λ i before. rw (after.same i (omega (arith, before, lt))) (it.agree i before)) (rw (after.same c.loop-done.done lt) agree);
    }

pub returns-clause-same : goal.returns-clause-same
returns-clause-same g c =
    let it = c.loop-done.invariant in
    let queue = c.loop-done.queue.items in
    let ended : c.loop-done.done ≡ length queue = omega (arith, it.inside) in
    all_the_same c.args.a.now c.args.b.now queue _ _ it.explores
    (ap (λ n. n * symbols_of c.args.a.now c.args.b.now) ended) c.states.ensures.table c.states-2.ensures.table
    (λ i lt. it.agree i (omega (arith, lt, ended)))

pub first_pairs-requires-clause-none : goal.first_pairs-requires-clause-none
first_pairs-requires-clause-none g c = c.in_ok-met.ensures.none

pub first_pairs-requires-clause-places : goal.first_pairs-requires-clause-places
first_pairs-requires-clause-places g c = record {
  rows = c.in_ok-met.ensures.rows ∙ ap (λ n. n + 1) c.states.ensures.value;
  columns = c.in_ok-met.ensures.columns ∙ ap (λ n. n + 1) c.states-2.ensures.value;
}

pub loop-done-init : goal.loop-done-init
loop-done-init g c = record {
  inside = omega arith;
  places = c.first_pairs.ensures.places;
  explores = explored_none c.args.a.now c.args.b.now c.in_ok-queue.queue.items _ _ c.in_ok-queue.ensures.explores;
  agree = λ i none. absurd (omega (arith, none));
}

pub index-pair-requires : goal.index-pair-requires
index-pair-requires g c = omega (arith, c.loop-done-test.true, c.len.ensures)

pub word_of-requires-clause-inside : goal.word_of-requires-clause-inside
word_of-requires-clause-inside g c = omega (arith, c.loop-done-test.true, c.len.ensures, c.as_slice.ensures.len)

pub word_of-requires-clause-before : goal.word_of-requires-clause-before
word_of-requires-clause-before g c = rw c.as_slice.ensures.value (λ i past inside. (c.loop-done.invariant.explores.linked i past inside).before)

pub add_successors-requires-clause-explores : goal.add_successors-requires-clause-explores
add_successors-requires-clause-explores g c = c.loop-done.invariant.explores

pub add_successors-requires-clause-inside : goal.add_successors-requires-clause-inside
add_successors-requires-clause-inside g c = omega (arith, c.loop-done-test.true, c.len.ensures)

pub add_successors-requires-clause-places : goal.add_successors-requires-clause-places
add_successors-requires-clause-places g c = c.loop-done.invariant.places

pub overflow_add-done : goal.overflow_add-done
overflow_add-done g c = omega (arith, c.loop-done-test.true, c.len.type_inv)

pub loop-done-smaller : goal.loop-done-smaller
loop-done-smaller g c = omega (arith, c.loop-done-test.true, c.len.type_inv)
