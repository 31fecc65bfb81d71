use Rattle.bit_set_c.proofs.matrix.graphs.bit_matrix_transitive_closure.Goals as goal

pub returns-clause-closure : goal.returns-clause-closure
returns-clause-closure c = rw c.get.ensures.value at c.transitive_closure.ensures.closure
