use Rattle.std.proofs.Common.{◌≡◌, [], ◌∷◌, arith}
use Rattle.bit_set.specs.Sets.{those_from}
use Rattle.bit_matrix.specs.Matrices.{row_of}
use Rattle.graph_walks.proofs.FollowLemmas.{first_is_in, none_at_all, none_up_to}
use Rattle.graph_walks.proofs.matrix.next_in.Goals as goal

pub returns-in-Some-clause-inside : goal.returns-in-Some-clause-inside
returns-in-Some-clause-inside g c =
    let row = row_of c.args.reaches.now c.args.row in
    let from = c.args.from in
    let at : those_from row from ≡ c.in-Some.node ∷ c.next.new.self = rw c.iter_from.ensures.left at c.in-Some.ensures.steps.item in
    let found = first_is_in row from (c.members_of_sets.ensures.those_from row from) c.in-Some.node c.next.new.self at in
    (found.0, c.if-node-to.true, found.1)

pub returns-in-Some-clause-least : goal.returns-in-Some-clause-least
returns-in-Some-clause-least g c =
    let row = row_of c.args.reaches.now c.args.row in
    let from = c.args.from in
    let at : those_from row from ≡ c.in-Some.node ∷ c.next.new.self = rw c.iter_from.ensures.left at c.in-Some.ensures.steps.item in
    let ascends = c.sets_ascend.ensures.those_from row from (c.rows.ensures.matrix.ascends c.args.row) in
    none_up_to row from (c.members_of_sets.ensures.those_from row from) c.in-Some.node c.next.new.self c.in-Some.node ascends at (omega arith)

pub returns-in_default-clause-none : goal.returns-in_default-clause-none
returns-in_default-clause-none g c =
    let row = row_of c.args.reaches.now c.args.row in
    let from = c.args.from in
    let at : those_from row from ≡ c.in-Some.node ∷ c.next.new.self = rw c.iter_from.ensures.left at c.in-Some.ensures.steps.item in
    let ascends = c.sets_ascend.ensures.those_from row from (c.rows.ensures.matrix.ascends c.args.row) in
    none_up_to row from (c.members_of_sets.ensures.those_from row from) c.in-Some.node c.next.new.self c.args.to ascends at c.if-node-to.false

pub returns-in_default-2-clause-none : goal.returns-in_default-2-clause-none
returns-in_default-2-clause-none g c =
    let row = row_of c.args.reaches.now c.args.row in
    let from = c.args.from in
    let none : those_from row from ≡ [] = rw c.iter_from.ensures.left at c.in_default.ensures.steps.item.0 in
    none_at_all row from (c.members_of_sets.ensures.those_from row from) c.args.to none
