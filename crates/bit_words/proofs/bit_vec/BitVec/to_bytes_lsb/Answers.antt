use Rattle.std.proofs.{Common.{sym, ◌∙◌}, lemmas.Bool.true≢false}
use Rattle.bit_blocks.proofs.VectorLemmas.{length_from_view}
use Rattle.bit_words.proofs.LowByteLemmas.{bytes_are_blocks}
use Rattle.bit_words.proofs.bit_vec.BitVec.to_bytes_lsb.Goals as goal

pub returns-clause-values : goal.returns-clause-values
returns-clause-values g c =
    bytes_are_blocks _ _ _ _ c.in_ok-bytes.bytes.items _ c.self.view_is c.self.invariant.packed.tail c.in_ok-bytes.ensures.len
    (rw c.as_slice.ensures.value at c.are_bytes.ensures) (rw c.deref.ensures.value at c.in_ok-bytes.ensures.values)

pub returns-in_err-bytes-clause-empty : goal.returns-in_err-bytes-clause-empty
returns-in_err-bytes-clause-empty g c none = absurd (true≢false (sym (c.in_err-bytes.ensures.empty (sym (length_from_view _ _ _ _ _ c.self.view_is) ∙ none))))
