use Rattle.std.proofs.Common.{sym, ◌∙◌, arith, rules}
use Rattle.set_algebra.proofs.ValueLemmas.{has-within}
use Rattle.bit_set.proofs.{CapacityLemmas.Grows-there, ChangeLemmas.changes_toggled}
use Rattle.bit_set.proofs.set.BitSet.toggle.Goals as goal

pub returns-then-remove-clause-unfit : goal.returns-then-remove-clause-unfit
returns-then-remove-clause-unfit g c =
    let within = has-within c.args.self.now.values c.args.value (sym c.remove.ensures.returned ∙ c.if-remove.true) in
    let fits = rw c.self.view_is at c.len.ensures.fits in
    (λ no. search rules, λ most. absurd (omega (arith, within, most, fits.holds_values, fits.fits)))

pub returns-then-remove-clause-grows : goal.returns-then-remove-clause-grows
returns-then-remove-clause-grows g c =
    let within = has-within c.args.self.now.values c.args.value (sym c.remove.ensures.returned ∙ c.if-remove.true) in
    let fits = rw c.self.view_is at c.len.ensures.fits in
    record {
      long = omega (arith, c.remove.ensures.size.long, within);
      grows = Grows-there _ _ _ _ (omega (arith, within, fits.holds_values)) fits.holds_values c.remove.ensures.size.capacity;
    }

pub returns-then-remove-clause-changes : goal.returns-then-remove-clause-changes
returns-then-remove-clause-changes g c =
    let was = sym c.remove.ensures.returned ∙ c.if-remove.true in
    let fits = rw c.self.view_is at c.len.ensures.fits in
    changes_toggled c.args.value c.args.self.now.values c.remove.new.self.values
    (omega (arith, has-within c.args.self.now.values c.args.value was, fits.holds_values, fits.fits)) was c.remove.ensures.elements
