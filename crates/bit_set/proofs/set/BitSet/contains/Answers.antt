use Rattle.std.proofs.Common.{sym, ap, ◌∙◌, arith, length}
use Rattle.set_algebra.proofs.ValueLemmas.{has-slice_get, has-within}
use Rattle.bit_set.proofs.set.BitSet.contains.Goals as goal

pub returns-clause-value : goal.returns-clause-value
returns-clause-value g c = rw (c.unwrap_or.ensures, c.get.ensures, ← c.self.view_is) (has-slice_get c.self.inside.bits.values c.args.value)

pub returns-clause-within : goal.returns-clause-within
returns-clause-within g c = λ yes.
    let inside = has-within c.args.self.now.values c.args.value (sym (returns-clause-value g c) ∙ yes) in
    (inside, omega (arith, inside, ap (λ bits. length bits.values) c.self.view_is, c.len.ensures.fits.holds_values, c.len.ensures.fits.fits))
