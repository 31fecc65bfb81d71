use Rattle.std.proofs.Common.{◌≡◌, ◌+◌, ◌<◌, ◌∷◌, ◌++◌, [], length, take, get_or, arith}
use Rattle.std.proofs.lemmas.List.{take_all, take_more}
use Rattle.bit_set.specs.Sets.{elements}
use Rattle.automata.{specs.Runs.{IsEnd, IsImage, row_of, rows_of_sets}, proofs.StepLemmas.{end_none, end_on}}
use Rattle.automata.proofs.nfa.follow.Goals as goal

pub loop-symbol-init : goal.loop-symbol-init
loop-symbol-init g c = record { end = end_none _ _; states = c.requires.states; next = c.requires.next }

pub loop-symbol-preserved : goal.loop-symbol-preserved
loop-symbol-preserved g c =
    let moves = rows_of_sets c.args.moves.now in
    let i = c.loop-symbol.symbol-index in
    let word = c.args.word.now in
    let inside : i < length word = omega arith in
    let longer : take (i + 1) word ≡ take i word ++ get_or word i 0 ∷ [] = take_more word i 0 inside in
    let same = c.step.ensures.capacity c.loop-symbol.invariant.next in
    let image : IsImage (row_of moves (get_or word i 0)) (elements c.loop-symbol.states.values) (elements c.step.new.into.values) = rw c.unwrap.ensures at c.step.ensures.image in
    let end : IsEnd moves (elements c.args.states.now.values) (take i word ++ get_or word i 0 ∷ [])
    (elements c.step.new.into.values) = end_on moves _ _ _ (take i word) (get_or word i 0) c.loop-symbol.invariant.end image in
    record {
      end = rw (longer, c.swap.ensures.x_after) end;
      states = rw (c.swap.ensures.x_after, same) c.loop-symbol.invariant.next;
      next = rw c.swap.ensures.y_after c.loop-symbol.invariant.states;
    }

pub returns : goal.returns
returns g c =
    let whole : take c.loop-symbol.symbol-index c.args.word.now ≡ c.args.word.now = take_all _ _ (omega arith) in
    rw whole at c.loop-symbol.invariant.end
