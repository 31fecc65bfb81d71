use Rattle.bit_set.proofs.ByteLemmas.{has-blocks_of, low_bits_of_bytes}
use Rattle.bit_set.proofs.set.BitSet.from_bytes_lsb_general.Goals as goal

pub returns-clause-elements : goal.returns-clause-elements
returns-clause-elements g c q r low = has-blocks_of c.in_ok-bits.bits.values c.args.bytes.now q r c.in_ok-bits.ensures.values low

pub returns-clause-members : goal.returns-clause-members
returns-clause-members g c = low_bits_of_bytes c.in_ok-bits.bits.values c.args.bytes.now c.in_ok-bits.ensures.values
