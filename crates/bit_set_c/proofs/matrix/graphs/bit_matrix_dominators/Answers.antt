use Rattle.graph_walks.specs.Dominators.{AreDominators}
use Rattle.c_handles.proofs.Outcomes.{if_held}
use Rattle.bit_set_c.proofs.matrix.graphs.bit_matrix_dominators.Goals as goal

pub returns-in-Ok-clause-dominators : goal.returns-in-Ok-clause-dominators
returns-in-Ok-clause-dominators c =
    if_held (AreDominators c.args.graph.now.cells.rows c.args.entry) c.boxed_matrix.new.out.held c.in-Ok.matrix c.boxed_matrix.ensures.value (rw c.get.ensures.value at c.in-Ok.ensures.dominators)
