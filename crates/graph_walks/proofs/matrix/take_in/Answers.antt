use Rattle.std.proofs.Common.{◌∙◌, refl, arith}
use Rattle.bit_matrix.{proofs.CopyLemmas.{shape_of_row, shape_on}, specs.Matrices.row_of}
use Rattle.graph_walks.proofs.{CloseLemmas.{none_on_the_way}, FollowLemmas.{follows_past, follows_taken, follows_via, further_on_the_way, union_on_the_way}}
use Rattle.graph_walks.proofs.matrix.take_in.Goals as goal

pub loop-node-init : goal.loop-node-init
loop-node-init g c = record { follows = λ graph others own. own; way = none_on_the_way c.args.reaches.now.rows; others = λ q other. refl; shape = record { rows = refl; columns = refl }; above = omega arith }

pub loop-node-preserved : goal.loop-node-preserved
loop-node-preserved g c =
    let old = c.args.reaches.now in
    let now = c.loop-node.reaches in
    let row = c.args.row in
    let node = c.in-Some.node in
    let before = c.loop-node.invariant in
    let found = c.in-Some.ensures in
    let inside = found.inside in
    let step = c.union_rows.ensures.members in
    record {
      follows = λ graph others own.
          let up = follows_past graph row (row_of now row) c.loop-node.next node found.least (before.follows graph others own) in
          let was = others node (omega (arith, before.above, inside.0)) inside.1 in
          follows_taken graph row node (row_of now row) (row_of now node) (row_of c.union_rows.new.self row) step.row (follows_via graph old now row node before.others was up) up;
      way = further_on_the_way old.rows now.rows c.union_rows.new.self.rows before.way (union_on_the_way now c.union_rows.new.self node row inside.2 step);
      others = λ q other. step.others q other ∙ before.others q other;
      shape = shape_on _ _ _ before.shape (shape_of_row _ _ _ _ step);
      above = omega (arith, before.above, inside.0);
    }

pub returns-clause-follows : goal.returns-clause-follows
returns-clause-follows g c = λ graph others own.
    follows_past graph c.args.row (row_of c.loop-node.reaches c.args.row) c.loop-node.next c.args.to c.in_default.ensures.none (c.loop-node.invariant.follows graph others own)
