use Rattle.std.proofs.Common.{◌≡◌, ◌<◌, take}
use Rattle.automata.specs.Tables.{IsWordOver, end_from}
use Rattle.automata.proofs.dfa.end_of.Given as goal

abbrev pub invariant-loop-symbol : goal.invariant-loop-symbol
invariant-loop-symbol l = record {
  inside : l.state < l.states;
  over : IsWordOver l.symbols (take l.symbol-index l.word);
  end : l.state ≡ end_from l.symbols l.next 0 (take l.symbol-index l.word);
}
