use Rattle.std.proofs.Common.{ap, ◌∙◌}
use Rattle.bit_blocks.specs.Bits.{blocks_of}
use Rattle.set_algebra.{specs.Sets.{elements}, proofs.SubsetLemmas.{tells_proper}}
use Rattle.bit_set.proofs.ProperLemmas.{none_proper, proper_by_mismatch}
use Rattle.bit_set.proofs.set.BitSet.is_proper_subset.Goals as goal

pub is_within_from-requires : goal.is_within_from-requires
is_within_from-requires g c = record { each = c.storage-blocks.ensures.each; others = c.storage-others.ensures.each; before = c.in-Some.ensures.below }

pub returns-in-None-clause-returned : goal.returns-in-None-clause-returned
returns-in-None-clause-returned g c =
    let w = g.B.BitBlock.width in
    let left = c.storage-blocks.ensures.numbers ∙ ap (λ s. blocks_of w s.values) c.get_ref.ensures in
    let right = c.storage-others.ensures.numbers ∙ ap (λ s. blocks_of w s.values) c.get_ref-2.ensures in
    none_proper w c.args.self.now.values c.args.other.now.values g.met.B.BitBlock.width_law.positive (rw (left, right) at c.in-None.ensures)

pub returns-in-None-clause-members : goal.returns-in-None-clause-members
returns-in-None-clause-members g c = tells_proper _ (elements c.args.self.now.values) (elements c.args.other.now.values) (returns-in-None-clause-returned g c)

pub returns-in-Some-clause-returned : goal.returns-in-Some-clause-returned
returns-in-Some-clause-returned g c =
    let w = g.B.BitBlock.width in
    let left = c.storage-blocks.ensures.numbers ∙ ap (λ s. blocks_of w s.values) c.get_ref.ensures in
    let right = c.storage-others.ensures.numbers ∙ ap (λ s. blocks_of w s.values) c.get_ref-2.ensures in
    proper_by_mismatch w c.in-Some.at c.args.self.now.values c.args.other.now.values _ g.met.B.BitBlock.width_law.positive
    (rw (left, right) at c.in-Some.ensures) (rw (left, right) at c.is_within_from.ensures)

pub returns-in-Some-clause-members : goal.returns-in-Some-clause-members
returns-in-Some-clause-members g c = tells_proper _ (elements c.args.self.now.values) (elements c.args.other.now.values) (returns-in-Some-clause-returned g c)
