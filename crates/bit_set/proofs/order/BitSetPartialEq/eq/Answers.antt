use Rattle.std.proofs.Common.{ap}
use Rattle.bit_blocks.specs.Bits.{blocks_of}
use Rattle.set_algebra.proofs.MemberLemmas.{tells_same}
use Rattle.set_algebra.proofs.MismatchLemmas.{same_by_blocks}
use Rattle.bit_set.proofs.order.BitSetPartialEq.eq.Goals as goal

pub returns-clause-lists : goal.returns-clause-lists
returns-clause-lists g c =
    let w = g.B.BitBlock.width in
    let left = ap (λ s. blocks_of w s.values) c.get_ref.ensures in
    let right = ap (λ s. blocks_of w s.values) c.get_ref-2.ensures in
    same_by_blocks w c.args.self.now.values c.args.other.now.values c.has_same_blocks.result g.met.B.BitBlock.width_law.positive (rw (left, right) at c.has_same_blocks.ensures)

pub returns-clause-members : goal.returns-clause-members
returns-clause-members g c = tells_same c.has_same_blocks.result c.args.self.now.values c.args.other.now.values (returns-clause-lists g c)
