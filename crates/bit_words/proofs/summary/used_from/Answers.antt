use Rattle.bit_words.proofs.UsedLemmas.{says_all}
use Rattle.bit_words.proofs.summary.used_from.Goals as goal

pub returns-then-count-lt-GROUP-clause-digits : goal.returns-then-count-lt-GROUP-clause-digits
returns-then-count-lt-GROUP-clause-digits g c =
    says_all g.B.BitBlock.width g.B.BitBlock.number _ c.args.start c.min-count.result c.args.blocks.now c.used_bits.result (rw c.bits.ensures at c.min-count.ensures) c.used_bits.ensures

pub returns-clause-digits : goal.returns-clause-digits
returns-clause-digits g c =
    says_all g.B.BitBlock.width g.B.BitBlock.number _ c.args.start c.min-count.result c.args.blocks.now c.bits_from.result (rw c.bits.ensures at c.min-count.ensures) c.bits_from.ensures
