use Rattle.std.proofs.{Common.{length, sym, ap, arith, ◌∙◌}}
use Rattle.bit_set.proofs.MemberLemmas.{none_from_members}
use Rattle.bit_matrix.proofs.{RowLemmas.{count_members}, SeenLemmas.{none_past, seen_columns, seen_matrix}}
use Rattle.bit_matrix.proofs.matrix.BitMatrix.count.Goals as goal

pub returns-then-self-eq0 : goal.returns-then-self-eq0
returns-then-self-eq0 g c =
    let pos = g.met.B.BitBlock.width_law.positive in
    let columns = seen_columns pos c.self.invariant c.self.view_is in
    sym (ap length (none_from_members _ (λ d. none_past _ (seen_matrix pos c.self.invariant c.self.view_is) c.args.row d (omega (arith, columns)))))

pub returns : goal.returns
returns g c =
    let pos = g.met.B.BitBlock.width_law.positive in
    let columns = seen_columns pos c.self.invariant c.self.view_is in
    let matrix = seen_matrix pos c.self.invariant c.self.view_is in
    c.ones_in_span.ensures ∙ count_members _ c.self.inside.columns _ (matrix.ascends c.args.row) c.row_blocks.ensures.bits (λ d past. none_past _ matrix c.args.row d (omega (arith, columns)))
