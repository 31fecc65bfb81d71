use Rattle.bit_matrix.proofs.CopyLemmas.{shape_of_row, shape_on}
use Rattle.graph_walks.proofs.MatrixLemmas.{own_bit}
use Rattle.graph_walks.proofs.matrix.put_each_in_its_row.Goals as goal

pub loop-node-preserved : goal.loop-node-preserved
loop-node-preserved g c =
    let before = c.loop-node.invariant in
    let now = c.insert.ensures.members in
    record {
      bits = own_bit c.args.matrix.now c.loop-node.matrix c.insert.new.self c.loop-node.node before.bits now;
      shape = shape_on _ _ _ before.shape (shape_of_row _ _ _ _ now);
    }
