use Rattle.std.proofs.Common.{◌<◌, ◌++◌, List, ℕ, length, reverse}
use Rattle.automata.specs.Searching.{Spells}
use Rattle.automata.proofs.equivalence.word_of.Given as goal

abbrev pub invariant-loop-at : goal.invariant-loop-at
invariant-loop-at l = record {
  inside : l.at < length l.queue;
  spelled : (word : List ℕ) → Spells l.queue l.at word → Spells l.queue l.place (word ++ reverse l.word.items);
}

abbrev pub decreases-loop-at : goal.decreases-loop-at
decreases-loop-at l = l.at
