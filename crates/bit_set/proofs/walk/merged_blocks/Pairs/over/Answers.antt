use Rattle.std.proofs.Common.{arith, rules}
use Rattle.bit_set.proofs.PairLemmas.{walkable_both}
use Rattle.bit_set.proofs.walk.merged_blocks.Pairs.over.Goals as goal

pub returns : goal.returns
returns g c =
    let first = c.blocks-2.ensures in
    let second = c.blocks-3.ensures in
    let made = walkable_both g.B.BitBlock.width g.B.BitBlock.number g.O.Operation.merge _ _ _ _ _ g.met.B.BitBlock.width_law.positive first.numbers second.numbers
    (omega (arith, first.fits.holds_values, first.fits.fits)) (omega (arith, second.fits.holds_values, second.fits.fits)) in
    record { can = made.0; values = made.1; blocks = made.2; pulls = search rules }
