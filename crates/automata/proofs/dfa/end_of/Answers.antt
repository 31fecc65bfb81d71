use Rattle.std.proofs.Common.{◌≡◌, ◌+◌, ◌*◌, ◌<◌, ◌∷◌, ◌++◌, [], length, take, get_or, ap, sym, ◌∙◌, arith}
use Rattle.std.proofs.lemmas.List.{take_more}
use Rattle.automata.{specs.Tables.next_state, proofs.BuildLemmas.{end_push, over_at, over_push, place_inside}}
use Rattle.automata.proofs.dfa.end_of.Goals as goal

pub returns-then-symbol-symbols-clause-outside : goal.returns-then-symbol-symbols-clause-outside
returns-then-symbol-symbols-clause-outside c over =
    let inside = over_at c.args.symbols c.args.word.now c.loop-symbol.symbol-index over (omega arith) in
    omega (arith, inside)

pub loop-symbol-preserved : goal.loop-symbol-preserved
loop-symbol-preserved c =
    let k = c.args.symbols in
    let next = c.args.next.now in
    let word = c.args.word.now in
    let i = c.loop-symbol.symbol-index in
    let in_word : i < length word = omega arith in
    let symbol_in : get_or word i 0 < k = omega arith in
    let longer : take (i + 1) word ≡ take i word ++ get_or word i 0 ∷ [] = take_more word i 0 in_word in
    let place = place_inside c.args.states k next c.loop-symbol.state (get_or word i 0) c.requires c.loop-symbol.invariant.inside symbol_in in
    record {
      inside = c.requires.inside (c.loop-symbol.state * k + get_or word i 0) place;
      over = rw longer (over_push k (take i word) (get_or word i 0) c.loop-symbol.invariant.over symbol_in);
      end = rw longer (ap (λ s. next_state k next s (get_or word i 0)) c.loop-symbol.invariant.end ∙ sym (end_push k next 0 (take i word) (get_or word i 0)));
    }
