use Rattle.std.proofs.Common.{arith}
use Rattle.bit_set.proofs.{CapacityLemmas.Grows-there}
use Rattle.bit_set.proofs.set.BitSet.set.Goals as goal

pub returns-else-bit-clause-grows : goal.returns-else-bit-clause-grows
returns-else-bit-clause-grows g c =
    let fits = rw c.self.view_is at c.len.ensures.fits in
    rw c.if-bit.false (Grows-there _ _ _ _ (omega arith) fits.holds_values c.remove.ensures.size.capacity)

pub returns-then-bit-clause-returned : goal.returns-then-bit-clause-returned
returns-then-bit-clause-returned g c = rw c.if-bit.true c.insert.ensures.returned

pub returns-then-bit-clause-elements : goal.returns-then-bit-clause-elements
returns-then-bit-clause-elements g c = rw c.if-bit.true c.insert.ensures.elements

pub returns-then-bit-clause-members : goal.returns-then-bit-clause-members
returns-then-bit-clause-members g c = rw c.if-bit.true c.insert.ensures.members

pub returns-then-bit-clause-length : goal.returns-then-bit-clause-length
returns-then-bit-clause-length g c = rw c.if-bit.true c.insert.ensures.grows.long

pub returns-then-bit-clause-unfit : goal.returns-then-bit-clause-unfit
returns-then-bit-clause-unfit g c = (λ err. (c.if-bit.true, c.insert.ensures.unfit.0 err), λ both. c.insert.ensures.unfit.1 both.1)

pub returns-then-bit-clause-fails : goal.returns-then-bit-clause-fails
returns-then-bit-clause-fails g c = c.insert.ensures.fails

pub returns-then-bit-clause-grows : goal.returns-then-bit-clause-grows
returns-then-bit-clause-grows g c = rw c.if-bit.true c.insert.ensures.grows.grows

pub returns-else-bit-clause-returned : goal.returns-else-bit-clause-returned
returns-else-bit-clause-returned g c = rw c.if-bit.false c.remove.ensures.returned

pub returns-else-bit-clause-elements : goal.returns-else-bit-clause-elements
returns-else-bit-clause-elements g c = rw c.if-bit.false c.remove.ensures.elements

pub returns-else-bit-clause-members : goal.returns-else-bit-clause-members
returns-else-bit-clause-members g c = rw c.if-bit.false c.remove.ensures.members

pub returns-else-bit-clause-length : goal.returns-else-bit-clause-length
returns-else-bit-clause-length g c = rw c.if-bit.false c.remove.ensures.size.long
