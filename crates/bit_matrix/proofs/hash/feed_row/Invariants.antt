use Rattle.std.{proofs.Common.{◌≡◌}, specs.List.{fold}}
use Rattle.bit_set.specs.Order.{fed_of_set}
use Rattle.bit_matrix.specs.{Compared.{fed_of_row}, Matrices.{row_of}}
use Rattle.bit_matrix.proofs.hash.feed_row.Given as goal

-- what is left is still to be fed
abbrev pub invariant-loop-column : goal.invariant-loop-column
invariant-loop-column g l =
    fold g.H.Hasher.write l.state (fed_of_set l.column-iterator) ≡ fold g.H.Hasher.write l.fn.state (fed_of_row (row_of l.matrix l.row))
