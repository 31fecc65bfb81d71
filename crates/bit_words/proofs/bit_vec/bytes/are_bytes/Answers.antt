use Rattle.std.proofs.Common.{arith}
use Rattle.bit_words.proofs.bit_vec.bytes.are_bytes.Goals as goal

pub returns : goal.returns
returns c = λ k. omega (arith, c.type_inv.bytes k)
