use Rattle.std.proofs.Common.{◌≡◌, map, sym, ap, ◌∙◌, Some, arith}
use Rattle.bit_blocks.{specs.Storage.value_at, proofs.{BitsLemmas.blocks_for-above, VectorLemmas.{slice_get-values_of, slice_get-values_of_past}}}
use Rattle.bit_words.proofs.bit_vec.BitVec.get.Goals as goal

pub returns-then-i-self : goal.returns-then-i-self
returns-then-i-self g c = rw (← c.self.view_is) (sym (slice_get-values_of_past _ _ _ _ (omega arith)))

pub get_bit-requires-clause-in_bounds : goal.get_bit-requires-clause-in_bounds
get_bit-requires-clause-in_bounds g c =
    let within = blocks_for-above g.B.BitBlock.width c.self.inside.len c.args.i g.met.B.BitBlock.width_law.positive (omega arith) in
    rw c.deref.ensures.value (omega arith)

pub returns : goal.returns
returns g c =
    let read : c.get_bit.result ≡ value_at g.B.BitBlock.width (map g.B.BitBlock.number c.self.inside.blocks.items) c.args.i = rw c.deref.ensures.value at c.get_bit.ensures in
    rw (← c.self.view_is) (ap Some read ∙ sym (slice_get-values_of _ _ _ _ (omega arith)))
