use Rattle.std.proofs.{Common.{◌≤◌, [], length, ap, arith}, lemmas.{Bool.Decides.{nat_tests}, List.get_or_past}}
use Rattle.bit_set.specs.Sets.{has}
use Rattle.bit_matrix.proofs.SeenLemmas.{seen_columns, seen_matrix, seen_rows}
use Rattle.bit_matrix.proofs.matrix.BitMatrix.get.Goals as goal

pub returns-then-row-self-clause-value : goal.returns-then-row-self-clause-value
returns-then-row-self-clause-value g c =
    let rows = seen_rows g.met.B.BitBlock.width_law.positive c.self.invariant c.self.view_is in
    let columns = seen_columns g.met.B.BitBlock.width_law.positive c.self.invariant c.self.view_is in
    grind (arith, nat_tests)

pub returns-then-row-self-clause-outside : goal.returns-then-row-self-clause-outside
returns-then-row-self-clause-outside g c =
    let m = c.args.self.now in
    let rows = seen_rows g.met.B.BitBlock.width_law.positive c.self.invariant c.self.view_is in
    let columns = seen_columns g.met.B.BitBlock.width_law.positive c.self.invariant c.self.view_is in
    let matrix = seen_matrix g.met.B.BitBlock.width_law.positive c.self.invariant c.self.view_is in
    let below = matrix.below c.args.row c.args.column in
    let past = λ (h : length m.rows ≤ c.args.row).
    ap (λ row. has row c.args.column) (get_or_past m.rows c.args.row [] h) in
    grind (arith, nat_tests, below, past)

pub returns-then-row-self-clause-matrix : goal.returns-then-row-self-clause-matrix
returns-then-row-self-clause-matrix g c =
    seen_matrix g.met.B.BitBlock.width_law.positive c.self.invariant c.self.view_is

pub contains-requires-clause-row : goal.contains-requires-clause-row
contains-requires-clause-row g c = omega (arith, seen_rows g.met.B.BitBlock.width_law.positive c.self.invariant c.self.view_is)

pub returns-clause-value : goal.returns-clause-value
returns-clause-value g c =
    let rows = seen_rows g.met.B.BitBlock.width_law.positive c.self.invariant c.self.view_is in
    let columns = seen_columns g.met.B.BitBlock.width_law.positive c.self.invariant c.self.view_is in
    grind (arith, nat_tests, c.contains.ensures)

pub returns-clause-outside : goal.returns-clause-outside
returns-clause-outside g c = tt

pub returns-clause-matrix : goal.returns-clause-matrix
returns-clause-matrix g c = seen_matrix g.met.B.BitBlock.width_law.positive c.self.invariant c.self.view_is
