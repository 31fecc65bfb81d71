use Rattle.std.proofs.Common.{◌≡◌, refl, arith}
use Rattle.bit_words.proofs.TouchedLemmas.{fewer_ones, stay_untouched}
use Rattle.bit_words.proofs.summary.merges.touched.changes_touched.Goals as goal

pub loop-others-smaller : goal.loop-others-smaller
loop-others-smaller g c =
    let taken = c.take_lowest_one-p.ensures in
    omega (arith, fewer_ones g.B.BitBlock.width _ _ _ g.B.BitBlock.width taken.lowest taken.cleared (omega arith) taken.within)

pub returns : goal.returns
returns g c =
    let none : g.B.BitBlock.number c.loop-others.left ≡ 0 = grind (arith, c.is_nonzero.ensures, c.loop-others-test.false) in
    (λ _. stay_untouched _ _ _ c.args.q _ _ _ none c.loop-others.invariant.stay, λ _. refl)
