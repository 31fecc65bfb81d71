use Rattle.bit_matrix.proofs.CopyLemmas.{row_more, shape_on}
use Rattle.bit_matrix.proofs.matrix.copies.insert_columns.Goals as goal

pub loop-row-preserved : goal.loop-row-preserved
loop-row-preserved g c =
    let before = c.loop-row.invariant in
    record {
      bits = row_more c.args.transposed.now c.loop-row.transposed c.insert_in_each.new.transposed c.args.matrix.now c.args.from c.loop-row.row before.bits c.insert_in_each.ensures.bits;
      shape = shape_on _ _ _ before.shape c.insert_in_each.ensures.shape;
    }
