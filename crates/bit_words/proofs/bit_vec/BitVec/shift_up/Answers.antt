use Rattle.std.proofs.Common.{map, length, take, replicate, false, ◌++◌, sym, ap, ◌∙◌}
use Rattle.bit_blocks.{specs.Storage.values_of, proofs.StorageLemmas.length-values_of}
use Rattle.bit_words.proofs.MovedLemmas.{values_of-up}
use Rattle.bit_words.proofs.bit_vec.BitVec.shift_up.Goals as goal

pub returns-clause-values : goal.returns-clause-values
returns-clause-values g c =
    let w = g.B.BitBlock.width in
    let ms = map g.B.BitBlock.number c.self.inside.blocks.items in
    let n = c.self.inside.len in
    values_of-up w ms (map g.B.BitBlock.number c.shift_bits_up.new.blocks.items) n c.args.distance c.shift_bits_up.ensures.values
    ∙ ap (λ k. take k (replicate c.args.distance false ++ values_of w ms n)) (sym (length-values_of w ms n))
    ∙ ap (λ v. take (length v.values) (replicate c.args.distance false ++ v.values)) c.self.view_is
