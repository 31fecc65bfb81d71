use Rattle.std.proofs.{Common.{◌∙◌, inl, inr, length, replicate, sym, ap, arith, subst, true, false, IsTrue}, lemmas.{Bool.{cases_lt}, List.{get_or_past, length-replicate}}}
use Rattle.bit_blocks.proofs.BitsLemmas.{whole_before}
use Rattle.bit_set.{specs.Sets.has, proofs.SetLemmas.elements-by_members}
use Rattle.bit_matrix.proofs.SeenLemmas.{none_past, seen_columns}
use Rattle.bit_matrix.proofs.matrix.BitMatrix.row_to_set.Goals as goal

pub keep_blocks-requires-clause-count : goal.keep_blocks-requires-clause-count
keep_blocks-requires-clause-count g c k inside =
    let columns = seen_columns g.met.B.BitBlock.width_law.positive c.self.invariant c.self.view_is in
    let long = ap length c.in_ok-bits.ensures.values ∙ length-replicate c.self.inside.columns true in
    rw (long ∙ sym columns) (whole_before g.B.BitBlock.width c.args.self.now.columns k g.met.B.BitBlock.width_law.positive (omega (arith, inside, c.row_blocks.ensures.len)))

pub returns-clause-elements : goal.returns-clause-elements
returns-clause-elements g c =
    let columns = seen_columns g.met.B.BitBlock.width_law.positive c.self.invariant c.self.view_is in
    let long = ap length c.in_ok-bits.ensures.values ∙ length-replicate c.self.inside.columns true ∙ sym columns in
    rw c.from_bit_vec_general.ensures.value (elements-by_members _ _ (c.row_blocks.ensures.matrix.ascends c.args.row) (λ i. elim (cases_lt i c.args.self.now.columns) [
      | inl below ↦ c.keep_blocks.ensures.values i (omega (arith, below, long)) ∙ c.row_blocks.ensures.bits i
      | inr past ↦ get_or_past _ i false (omega (arith, past, long, c.keep_blocks.ensures.len)) ∙ sym (none_past c.args.self.now c.row_blocks.ensures.matrix c.args.row i past)
    ]))

pub returns-clause-columns : goal.returns-clause-columns
returns-clause-columns g c n is_in =
    c.row_blocks.ensures.matrix.below c.args.row n (subst (λ s. IsTrue (has s n)) (returns-clause-elements g c) is_in)

pub keep_blocks-requires-clause-ones : goal.keep_blocks-requires-clause-ones
keep_blocks-requires-clause-ones g c =
    c.in_ok-bits.ensures.values ∙ ap (λ n. replicate n true) (sym (ap length c.in_ok-bits.ensures.values ∙ length-replicate c.self.inside.columns true))

pub returns-clause-length : goal.returns-clause-length
returns-clause-length g c =
    rw c.from_bit_vec_general.ensures.value (c.keep_blocks.ensures.len ∙ ap length c.in_ok-bits.ensures.values
    ∙ length-replicate c.self.inside.columns true
    ∙ sym (seen_columns g.met.B.BitBlock.width_law.positive c.self.invariant c.self.view_is))

pub keep_blocks-requires-clause-each : goal.keep_blocks-requires-clause-each
keep_blocks-requires-clause-each g c = c.row_blocks.ensures.each

pub keep_blocks-requires-clause-enough : goal.keep_blocks-requires-clause-enough
keep_blocks-requires-clause-enough g c =
    let columns = seen_columns g.met.B.BitBlock.width_law.positive c.self.invariant c.self.view_is in
    let long = ap length c.in_ok-bits.ensures.values ∙ length-replicate c.self.inside.columns true in
    omega (arith, columns, long, c.row_blocks.ensures.enough)
