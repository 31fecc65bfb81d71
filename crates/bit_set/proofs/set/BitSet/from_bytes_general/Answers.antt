use Rattle.std.proofs.Common.{rules}
use Rattle.bit_blocks.proofs.ByteLemmas.{length-values_of_bytes}
use Rattle.bit_set.proofs.ByteLemmas.{bits_of_bytes, has-values_of_bytes}
use Rattle.bit_set.proofs.set.BitSet.from_bytes_general.Goals as goal

pub returns-clause-elements : goal.returns-clause-elements
returns-clause-elements g c q r low = rw c.in_ok-bits.ensures.values (has-values_of_bytes c.args.bytes.now q r low)

pub returns-clause-members : goal.returns-clause-members
returns-clause-members g c = rw c.in_ok-bits.ensures.values (bits_of_bytes c.args.bytes.now)

pub returns-clause-size : goal.returns-clause-size
returns-clause-size g c = record { long = rw c.in_ok-bits.ensures.values (length-values_of_bytes c.args.bytes.now); capacity = search rules }
