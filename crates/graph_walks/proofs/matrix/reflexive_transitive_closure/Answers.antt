use Rattle.graph_walks.proofs.MatrixLemmas.{is_reflexive_closure, reflexive_is_closed}
use Rattle.graph_walks.proofs.matrix.reflexive_transitive_closure.Goals as goal

pub returns-clause-closure : goal.returns-clause-closure
returns-clause-closure g c =
    let first = c.transitive_closure.ensures in
    let own = c.put_each_in_its_row.ensures in
    is_reflexive_closure c.args.reaches.now c.transitive_closure.new.reaches c.put_each_in_its_row.new.matrix first.closure own.matrix first.shape.rows first.shape.columns own.bits

pub returns-clause-closed : goal.returns-clause-closed
returns-clause-closed g c =
    let first = c.transitive_closure.ensures in
    let own = c.put_each_in_its_row.ensures in
    reflexive_is_closed c.args.reaches.now c.put_each_in_its_row.new.matrix
    (is_reflexive_closure c.args.reaches.now c.transitive_closure.new.reaches c.put_each_in_its_row.new.matrix first.closure
    own.matrix first.shape.rows first.shape.columns own.bits)
