use Rattle.std.proofs.Common.{◌≡◌, ◌+◌, ◌-◌, ◌<◌, ◌≤◌, ℕ, max, length, not, ap, ◌∙◌, refl, arith, length-append, Ok}
use Rattle.std.proofs.lemmas.{List.{length-replicate, length-set}, Result.err_from_is_err_and}
use Rattle.bit_blocks.specs.Bits.{Bits}
use Rattle.bit_words.specs.{Bounds.greatest, Growth.Grows}
use Rattle.set_algebra.{specs.Sets.{elements, has, put}, proofs.MemberLemmas.count_put}
use Rattle.bit_set.specs.declared.faults.SetError.{SetError}
use Rattle.bit_set.proofs.{ChangeLemmas.changes_inserted, CapacityLemmas.{Grows-changed, Grows-failed, Grows-there}}
use Rattle.set_algebra.proofs.{MemberLemmas.{counted, counted_within, updates_put}, SetLemmas.{elements-padded, elements-set_true}, ValueLemmas.has-read}
use Rattle.bit_set.proofs.set.BitSet.insert.Goals.{then-value-len+in_ok-lengthen_past, else-value-len}
use Rattle.bit_set.proofs.set.BitSet.insert.Goals as goal

-- the set once it is long enough for the value
record IsLong (value : ℕ) (old mid : Bits) : Type 0 where
  same : elements mid.values ≡ elements old.values
  within : value < length mid.values
  fits : length mid.values ≤ greatest
  long : length mid.values ≡ max (length old.values) (value + 1)
  grows : Grows {E = SetError} (value + 1) (Ok (tt {0})) old mid

long : (g : _) (c : goal.After-replace g) → IsLong c.args.value c.args.self.now c.if-value-len.self
long g c =
    let old : length c.self.inside.bits.values ≡ length c.args.self.now.values = ap (λ bits. length bits.values) c.self.view_is in
    elim c.if-value-len.branch [
      | then-value-len+in_ok-lengthen_past w ↦
          let grown = w.in_ok-lengthen_past.ensures in
          let size = simp (length-append, length-replicate) at (ap length grown.values) in
          rw w.self-is record {
            same = rw grown.values (elements-padded c.args.self.now.values (c.args.value + 1 - length c.args.self.now.values));
            within = omega (arith, size);
            fits = omega (arith, size, grown.fit);
            long = omega (arith, size, old);
            grows = grown.grows;
          }
      | else-value-len w ↦
          let capacity = ap (λ bits. bits.capacity) c.self.view_is in
          let fits = c.len.ensures.fits in
          rw w.self-is record {
            same = refl;
            within = omega (arith, old);
            fits = omega (arith, old, fits.holds_values, fits.fits);
            long = omega (arith, old);
            grows = Grows-there _ _ _ _ (omega (arith, capacity, fits.holds_values)) (omega (arith, old, capacity, fits.holds_values)) refl;
          }
    ]

pub returns-clause-returned : goal.returns-clause-returned
returns-clause-returned g c =
    let value = c.args.value in
    ap not (has-read c.self-2.inside.bits.values value _ c.replace.ensures.was ∙ ap (λ bits. has (elements bits.values) value) c.self-2.view_is ∙ ap (λ s. has s value) (long g c).same)

pub returns-clause-elements : goal.returns-clause-elements
returns-clause-elements g c =
    rw (c.replace.ensures.values, c.self-2.view_is) (elements-set_true c.if-value-len.self.values c.args.value (long g c).within ∙ ap (λ s. put s c.args.value) (long g c).same)

pub returns-clause-changes : goal.returns-clause-changes
returns-clause-changes g c =
    changes_inserted c.args.value _ c.args.self.now.values c.replace.new.self.values (omega (arith, (long g c).within, (long g c).fits)) (returns-clause-returned g c) (returns-clause-elements g c)

pub returns-clause-members : goal.returns-clause-members
returns-clause-members g c = updates_put (elements c.args.self.now.values) c.args.value (returns-clause-elements g c)

pub returns-clause-count : goal.returns-clause-count
returns-clause-count g c = count_put c.args.self.now.values (elements c.replace.new.self.values) c.args.value _ (returns-clause-elements g c) (returns-clause-returned g c)

pub returns-clause-counted : goal.returns-clause-counted
returns-clause-counted g c = counted c.replace.new.self.values (rw (c.replace.ensures.values, c.self-2.view_is) (simp length-set (long g c).fits))

pub returns-clause-grows : goal.returns-clause-grows
returns-clause-grows g c = record {
  long = rw (c.replace.ensures.values, c.self-2.view_is) (simp length-set (long g c).long);
  grows = Grows-changed _ _ _ _ _ _ (c.replace.ensures.capacity ∙ ap (λ bits. bits.capacity) c.self-2.view_is) (long g c).grows;
}

pub returns-in_err-lengthen_past-clause-counted : goal.returns-in_err-lengthen_past-clause-counted
returns-in_err-lengthen_past-clause-counted g c = rw (c.in_err-lengthen_past.ensures.grows.err, ← c.self.view_is) (counted_within c.self.inside.bits c.len.ensures.fits)

pub returns-in_err-lengthen_past-clause-grows : goal.returns-in_err-lengthen_past-clause-grows
returns-in_err-lengthen_past-clause-grows g c = rw (err_from_is_err_and c.from_residual.result c.from_residual.ensures.1).1 record { long = tt; grows = Grows-failed _ _ _ _ _ c.in_err-lengthen_past.ensures.grows }

pub returns-clause-unfit : goal.returns-clause-unfit
returns-clause-unfit g c = (λ none. cc, λ greatest. absurd (omega (arith, greatest, (long g c).within, (long g c).fits)))

pub returns-in_err-lengthen_past-clause-unfit : goal.returns-in_err-lengthen_past-clause-unfit
returns-in_err-lengthen_past-clause-unfit g c =
    let p = err_from_is_err_and c.from_residual.result c.from_residual.ensures.1 in
    let same = c.in_err-lengthen_past.ensures.unfit in
    rw (p.1, p.2) (λ is. same.0 (cc), λ greatest. let is = same.1 greatest in cc)

pub returns-in_err-lengthen_past-clause-fails : goal.returns-in_err-lengthen_past-clause-fails
returns-in_err-lengthen_past-clause-fails g c =
    let p = err_from_is_err_and c.from_residual.result c.from_residual.ensures.1 in
    rw (p.1, p.2) c.in_err-lengthen_past.ensures.fails

pub returns-in_err-lengthen_past-clause-past_blocks : goal.returns-in_err-lengthen_past-clause-past_blocks
returns-in_err-lengthen_past-clause-past_blocks g c =
    let p = err_from_is_err_and c.from_residual.result c.from_residual.ensures.1 in
    rw (p.1, p.2) c.in_err-lengthen_past.ensures.past_blocks
