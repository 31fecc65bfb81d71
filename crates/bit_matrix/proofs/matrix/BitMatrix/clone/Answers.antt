use Rattle.std.proofs.{Common.{◌*◌, length, sym, ap, ap₂, ◌∙◌}, lemmas.Bool.{true≢false}}
use Rattle.bit_blocks.specs.Bits.{blocks_for}
use Rattle.bit_matrix.proofs.{SeenLemmas.{seen_columns, seen_rows}, SetLemmas.{no_blocks}}
use Rattle.bit_matrix.proofs.matrix.BitMatrix.clone.Goals as goal

pub returns-in_err-blocks-clause-empty : goal.returns-in_err-blocks-clause-empty
returns-in_err-blocks-clause-empty g c none =
    let pos = g.met.B.BitBlock.width_law.positive in
    let w = g.B.BitBlock.width in
    let bits = ap₂ (λ rows stride. rows * (stride * w)) (sym (seen_rows pos c.self.invariant c.self.view_is))
    (c.self.invariant.in_row ∙ ap (blocks_for w) (sym (seen_columns pos c.self.invariant c.self.view_is))) in
    let no = no_blocks w c.self.inside.rows c.self.inside.stride pos (bits ∙ none) in
    absurd (true≢false (sym (c.in_err-blocks.ensures.empty (ap length c.deref.ensures.value ∙ c.self.invariant.count ∙ no))))
