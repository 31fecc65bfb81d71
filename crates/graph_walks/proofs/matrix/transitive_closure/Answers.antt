use Rattle.std.proofs.Common.{refl, arith}
use Rattle.bit_matrix.proofs.CopyLemmas.{shape_on}
use Rattle.graph_walks.specs.Paths.{here}
use Rattle.graph_walks.proofs.CloseLemmas.{least_closed}
use Rattle.graph_walks.proofs.FollowLemmas.{follows_again, follows_all_on, follows_before_on, follows_closed, follows_closure, follows_first}
use Rattle.graph_walks.proofs.matrix.transitive_closure.Goals as goal

pub loop-row-init : goal.loop-row-init
loop-row-init g c = record { follows = follows_first c.args.reaches.now; shape = record { rows = refl; columns = refl } }

pub loop-row-preserved : goal.loop-row-preserved
loop-row-preserved g c =
    let before = c.loop-row.invariant in
    let now = c.take_in.ensures in
    record {
      follows = follows_before_on c.args.reaches.now c.loop-row.reaches c.take_in.new.reaches c.loop-row.row now.others now.way now.follows before.follows;
      shape = shape_on _ _ _ before.shape now.shape;
    }

pub loop-row-2-init : goal.loop-row-2-init
loop-row-2-init g c =
    let before = c.loop-row.invariant in
    let count = c.rows-rows.ensures.value in
    record {
      follows = follows_again c.args.reaches.now c.loop-row.reaches c.loop-row.row (omega (arith, count, c.loop-row.auto.row-end, c.loop-row-test.false)) before.follows;
      shape = before.shape;
    }

pub loop-row-2-preserved : goal.loop-row-2-preserved
loop-row-2-preserved g c =
    let before = c.loop-row-2.invariant in
    let now = c.take_in-in-loop-row-2.ensures in
    let count = c.rows-rows.ensures.value in
    record {
      follows = follows_all_on c.args.reaches.now c.loop-row-2.reaches c.take_in-in-loop-row-2.new.reaches c.loop-row-2.row
          now.others now.way (rw count at now.follows) (omega (arith, count, c.loop-row-2-test.true)) before.follows;
      shape = shape_on _ _ _ before.shape now.shape;
    }

pub returns-clause-closure : goal.returns-clause-closure
returns-clause-closure g c =
    let count = c.rows-rows.ensures.value in
    follows_closure c.args.reaches.now c.loop-row-2.reaches c.loop-row-2.row (omega (arith, count, c.loop-row-2.auto.row-end, c.loop-row-2-test.false)) c.loop-row-2.invariant.follows

pub returns-clause-closed : goal.returns-clause-closed
returns-clause-closed g c =
    let count = c.rows-rows.ensures.value in
    follows_closed c.args.reaches.now c.loop-row-2.reaches c.loop-row-2.row (omega (arith, count, c.loop-row-2.auto.row-end, c.loop-row-2-test.false)) c.loop-row-2.invariant.follows

pub returns-clause-more : goal.returns-clause-more
returns-clause-more g c u v edge = (returns-clause-closure g c u v).1 (u, here, edge)

pub returns-clause-least : goal.returns-clause-least
returns-clause-least g c other closed kept u v edge = least_closed c.args.reaches.now.rows other closed kept u v ((returns-clause-closure g c u v).0 edge)
