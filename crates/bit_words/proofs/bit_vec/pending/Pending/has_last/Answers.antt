use Rattle.std.proofs.Common.{◌==◌, not, ap, sym, ◌∙◌}
use Rattle.bit_words.proofs.bit_vec.pending.Pending.has_last.Goals as goal

pub returns-then-self-bits-clause-used : goal.returns-then-self-bits-clause-used
returns-then-self-bits-clause-used g c is = ap (λ m. not (m == 0)) (sym c.block_at.ensures.of_number) ∙ sym c.is_nonzero.ensures ∙ is
