use Rattle.std.proofs.{Common.{◌-◌, ap, ◌∙◌}, lemmas.Result.on_ok_weaker}
use Rattle.bit_set.proofs.CapacityLemmas.{capacity_for_length}
use Rattle.bit_set.proofs.set.BitSet.reserve_len_exact.Goals as goal

pub returns-clause-exact : goal.returns-clause-exact
returns-clause-exact g c =
    let missing = c.saturating_sub-missing.ensures ∙ ap (λ n. c.args.len - n) c.len.ensures.value in
    rw (← c.self.view_is)
    (on_ok_weaker _ (λ exact. capacity_for_length _ _ _ _ _ _ g.met.B.BitBlock.width_law.positive missing
    c.len.ensures.fits.holds_values c.reserve_exact.ensures.grows.within exact) c.reserve_exact.ensures.exact)
