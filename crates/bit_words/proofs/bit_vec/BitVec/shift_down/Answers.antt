use Rattle.std.proofs.Common.{map, length, drop, min, replicate, false, ◌++◌, sym, ap, ◌∙◌}
use Rattle.bit_blocks.{specs.Storage.values_of, proofs.StorageLemmas.length-values_of}
use Rattle.bit_words.proofs.MovedLemmas.{values_of-down}
use Rattle.bit_words.proofs.bit_vec.BitVec.shift_down.Goals as goal

pub returns-clause-values : goal.returns-clause-values
returns-clause-values g c =
    let w = g.B.BitBlock.width in
    let ms = map g.B.BitBlock.number c.self.inside.blocks.items in
    let n = c.self.inside.len in
    values_of-down w ms (map g.B.BitBlock.number c.shift_bits_down.new.blocks.items) n c.args.distance c.self.invariant.packed.tail.zero_tail c.shift_bits_down.ensures.values
    ∙ ap (λ k. drop c.args.distance (values_of w ms n) ++ replicate (min c.args.distance k) false) (sym (length-values_of w ms n))
    ∙ ap (λ v. drop c.args.distance v.values ++ replicate (min c.args.distance (length v.values)) false) c.self.view_is
