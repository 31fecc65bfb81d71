use Rattle.std.proofs.Common.{◌∙◌, sym, length, ◌+◌, ◌*◌}
use Rattle.bit_blocks.proofs.BitsLemmas.{blocks_of-digit, blocks_of-lt, length-blocks_of, blocks_for-enough, blocks_for-least, true_from_slice_get, slice_get_from_true}
use Rattle.bit_words.proofs.laws.blocks_of_values.Goals as goal

pub returns : goal.returns
returns c = record {
  digits = λ w k j values h. (
    λ one. slice_get_from_true values (k * w + j) (sym (blocks_of-digit w k j values h) ∙ one),
    λ true_there. blocks_of-digit w k j values h ∙ true_from_slice_get values (k * w + j) true_there,
  );
  below = λ w k values. blocks_of-lt w k values;
  enough = λ w values h. rw length-blocks_of (blocks_for-enough w (length values) h);
  least = λ w n values h e. rw length-blocks_of (blocks_for-least w (length values) n h e);
}
