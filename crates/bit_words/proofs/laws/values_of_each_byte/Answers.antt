use Rattle.std.proofs.{Common.{◌<◌, ◌+◌, ◌*◌, length, false, ap, ◌∙◌, Some, arith}, lemmas.Option.slice_get-get_or}
use Rattle.bit_blocks.{specs.Bits.values_of_bytes, proofs.ByteLemmas.{length-values_of_bytes, get_or-values_of_bytes, byte_value-is}}
use Rattle.bit_words.proofs.laws.values_of_each_byte.Goals as goal

pub returns : goal.returns
returns c = record {
  len = length-values_of_bytes;
  values = λ bytes i j below within.
      let inside : 8 * i + j < length (values_of_bytes bytes) = rw length-values_of_bytes (omega arith) in
      slice_get-get_or (values_of_bytes bytes) (8 * i + j) false inside
      ∙ ap Some (get_or-values_of_bytes bytes (8 * i + j) ∙ byte_value-is bytes (8 * i + j) i j (omega arith) (omega arith));
}
