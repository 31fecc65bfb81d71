use Rattle.std.proofs.Common.{sym, arith}
use Rattle.bit_blocks.proofs.VectorLemmas.{length_from_view}
use Rattle.bit_words.proofs.GrowthLemmas.{stored_within_capacity}
use Rattle.bit_words.proofs.bit_vec.BitVec.len.Goals as goal

pub returns : goal.returns
returns g c = record {
  value = sym (length_from_view _ _ _ _ _ c.self.view_is);
  fits = stored_within_capacity _ _ _ _ _ _ _ _ _ g.met.B.BitBlock.width_law.positive c.self.invariant (omega arith) (omega arith) c.self.view_is;
}
