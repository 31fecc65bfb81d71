use Rattle.bit_blocks.proofs.block.merge.Merge.of_blocks.Goals as goal

pub returns-in-Union-clause-digits : goal.returns-in-Union-clause-digits
returns-in-Union-clause-digits g c = rw c.in-Union.is c.of_blocks.ensures.digits

pub returns-in-Intersection-clause-digits : goal.returns-in-Intersection-clause-digits
returns-in-Intersection-clause-digits g c = rw c.in-Intersection.is c.of_blocks-in-Intersection.ensures.digits

pub returns-in-Difference-clause-digits : goal.returns-in-Difference-clause-digits
returns-in-Difference-clause-digits g c = rw c.in-Difference.is c.of_blocks-in-Difference.ensures.digits

pub returns-in-Symmetric-clause-digits : goal.returns-in-Symmetric-clause-digits
returns-in-Symmetric-clause-digits g c = rw c.in-Symmetric.is c.of_blocks-in-Symmetric.ensures.digits
