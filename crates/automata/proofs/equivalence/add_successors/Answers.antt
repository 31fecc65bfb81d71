use Rattle.std.proofs.Common.{◌≡◌, ◌<◌, ◌∙◌, length, sym, arith, add-zero, refl}
use Rattle.automata.specs.{Pairs.symbols_of, Searching.pair_at}
use Rattle.automata.proofs.PairLemmas.{as_many, pair_on, read, same_pair, explored_pair}
use Rattle.automata.proofs.equivalence.add_successors.Goals as goal

pub loop-symbol-preserved : goal.loop-symbol-preserved
loop-symbol-preserved g c =
    let a = c.args.a.now in
    let b = c.args.b.now in
    let it = c.loop-symbol.invariant in
    let queue = c.loop-symbol.queue.items in
    let at = c.args.done in
    let from = c.index-from.result.now in
    let inside : c.loop-symbol.symbol < symbols_of a b = omega (arith, it.end) in
    let lt : at < length queue = omega (arith, c.requires.inside, it.more) in
    let from_is : pair_at queue at ≡ from = it.same at c.requires.inside ∙ sym (read c.args.queue.now.items at from c.requires.inside c.index-from.ensures) in
    let change = c.add.ensures.met in
    let after = c.in_ok-add.ensures.queue in
    let places = it.places in
    record {
      end = it.end;
      explores = pair_on a b queue _ at c.loop-symbol.symbol from c.step.result c.step-in-loop-symbol.result _ _ it.explores
          inside lt from_is c.step.ensures.value c.step-in-loop-symbol.ensures.value change after;
      more = let longer = as_many queue _ _ _ after in omega (arith, longer, it.more);
      same = λ i early. same_pair queue _ _ _ i after (omega (arith, early, it.more)) ∙ it.same i early;
      places = record { rows = change.rows ∙ places.rows; columns = change.columns ∙ places.columns };
    }

pub loop-symbol-init : goal.loop-symbol-init
loop-symbol-init g c = record {
  end = omega (arith, c.max-symbol-end.ensures, c.symbols.ensures, c.symbols-2.ensures);
  explores = rw add-zero c.requires.explores;
  more = omega arith;
  same = λ i early. refl;
  places = c.requires.places;
}

pub add-requires-clause-left : goal.add-requires-clause-left
add-requires-clause-left g c = omega (arith, c.step.ensures.inside, c.loop-symbol.invariant.places.rows)

pub add-requires-clause-right : goal.add-requires-clause-right
add-requires-clause-right g c = omega (arith, c.step-in-loop-symbol.ensures.inside, c.loop-symbol.invariant.places.columns)

pub returns-clause-explores : goal.returns-clause-explores
returns-clause-explores g c =
    let ended : c.loop-symbol.symbol ≡ c.max-symbol-end.result = omega (arith, c.loop-symbol-test.false, c.loop-symbol.auto.symbol-end) in
    explored_pair c.args.a.now c.args.b.now c.loop-symbol.queue.items _ c.args.done c.loop-symbol.symbol _ (ended ∙ c.loop-symbol.invariant.end) c.loop-symbol.invariant.explores

pub returns-clause-more : goal.returns-clause-more
returns-clause-more g c = c.loop-symbol.invariant.more

pub returns-clause-same : goal.returns-clause-same
returns-clause-same g c = c.loop-symbol.invariant.same

pub returns-clause-places : goal.returns-clause-places
returns-clause-places g c = c.loop-symbol.invariant.places
