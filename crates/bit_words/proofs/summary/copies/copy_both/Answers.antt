use Rattle.std.proofs.{Common.{◌≡◌, ◌∙◌, length, vec_capacity, sym, arith}, lemmas.Bool.eqb-true}
use Rattle.bit_words.proofs.CapacityLemmas.{capacity_kept, shared_enough}
use Rattle.bit_words.proofs.summary.copies.copy_both.Goals as goal

pub returns-then-is_empty-2-clause-exact : goal.returns-then-is_empty-2-clause-exact
returns-then-is_empty-2-clause-exact g c =
    let none : length c.args.from_summary.now ≡ 0 = eqb-true _ _ (sym c.is_empty.ensures ∙ c.if-is_empty.true) in
    let enough = shared_enough g.B.BitBlock.width (vec_capacity c.args.blocks.now) (vec_capacity c.args.summary.now) (length c.args.from.now) g.met.B.BitBlock.width_law.positive
    (omega arith) (omega (arith, none, c.requires.count)) in
    rw c.copy_from_slice.ensures.capacity (capacity_kept _ _ enough)

pub returns : goal.returns
returns g c = c.copy_both_general.ensures
