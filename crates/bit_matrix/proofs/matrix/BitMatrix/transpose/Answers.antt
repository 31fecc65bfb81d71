use Rattle.bit_matrix.proofs.CopyLemmas.{strip_more, turned_on}
use Rattle.bit_matrix.proofs.matrix.BitMatrix.transpose.Goals as goal

pub loop-k-preserved : goal.loop-k-preserved
loop-k-preserved g c =
    let before = c.loop-k.invariant in
    let now = c.transpose_columns.ensures in
    record {
      bits = strip_more c.loop-k.transposed c.transpose_columns.new.self c.args.self.now g.B.BitBlock.width c.loop-k.k before.bits now.inside now.others;
      shape = turned_on _ _ _ before.shape now.shape;
    }
