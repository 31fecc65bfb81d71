use Rattle.std.proofs.Common.{◌+◌, max, length, ap, ◌∙◌}
use Rattle.bit_blocks.specs.Bits.{blocks_for}
use Rattle.bit_set.specs.Walk.{blocks_past}
use Rattle.bit_set_walk_tests.proofs.walk_tests.pulls_of_sparse_sets.Goals as goal

pub returns-clause-one : goal.returns-clause-one
returns-clause-one c = λ values s t items is start run.
    c.sparse_walks.ensures.whole values s t items start run ∙ ap (λ xs. length (blocks_past 32 0 xs) + 2) is

pub returns-clause-two : goal.returns-clause-two
returns-clause-two c = λ values s t items is start run.
    c.sparse_walks.ensures.whole values s t items start run ∙ ap (λ xs. length (blocks_past 32 0 xs) + 2) is

pub returns-clause-none : goal.returns-clause-none
returns-clause-none c = λ values s t items is start run.
    c.sparse_walks.ensures.whole values s t items start run ∙ ap (λ xs. length (blocks_past 32 0 xs) + 2) is

pub returns-clause-summary : goal.returns-clause-summary
returns-clause-summary c = λ values s t items long start run.
    c.sparse_walks.ensures.summary values s t items start run ∙ ap (λ n. max 1 (blocks_for 32 (blocks_for 32 n)) + 1) long
