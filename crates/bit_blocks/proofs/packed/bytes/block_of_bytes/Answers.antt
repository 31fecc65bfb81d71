use Rattle.std.proofs.Common.{◌/◌, arith}
use Rattle.bit_blocks.proofs.ByteLemmas.{bytes_ended}
use Rattle.bit_blocks.proofs.packed.bytes.block_of_bytes.Goals as goal

pub returns-then-bytes-whole-clause-digits : goal.returns-then-bytes-whole-clause-digits
returns-then-bytes-whole-clause-digits g c = bytes_ended _ _ (c.bits-whole.result / 8) _ _ (omega arith) c.block_of_first.ensures.digits

pub returns-else-bytes-whole-clause-digits : goal.returns-else-bytes-whole-clause-digits
returns-else-bytes-whole-clause-digits g c = bytes_ended _ _ _ _ _ (omega arith) c.block_of_first-else-bytes-whole.ensures.digits
