use Rattle.std.proofs.Common.{map, arith}
use Rattle.bit_blocks.proofs.ByteLemmas.{bytes_values, in_ok}
use Rattle.bit_blocks.proofs.packed.bytes.bytes_of.Goals as goal

pub returns-clause-values : goal.returns-clause-values
returns-clause-values g c =
    in_ok c.bytes_in_order.result _ _ _ (λ bytes long digits.
    bytes_values g.B.BitBlock.width c.args.len (map g.B.BitBlock.number c.args.blocks.now) bytes.items long c.requires.tail
    (λ k j within index. digits k j (omega (arith, within, long)) index)) c.bytes_in_order.ensures.len
    c.bytes_in_order.ensures.values
