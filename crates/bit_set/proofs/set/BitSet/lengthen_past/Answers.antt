use Rattle.std.proofs.{Common.{rules, ◌≡◌, ◌+◌, ◌-◌, ◌≤◌, length, refl, ap, arith, mul-le-mul_right, Err, ◌∙◌}, lemmas.Result.err_from_is_err_and}
use Rattle.bit_set.{specs.declared.faults.SetError.TheVariants.Memory, proofs.{CapacityLemmas.{Grows-changed, Grows-failed}, set.BitSet.lengthen_past.Goals.After-grow}}
use Rattle.bit_set.proofs.set.BitSet.lengthen_past.Goals as goal

pub overflow_sub-value : goal.overflow_sub-value
overflow_sub-value g c = omega (arith, ap (λ bits. length bits.values) c.self.view_is, c.len-len.ensures.value, c.requires)

pub grow-requires : goal.grow-requires
grow-requires g c = omega (arith, overflow_sub-value g c, c.len-len.ensures.value, c.ranges.value.fits, c.if-value-eq18446744073709551615.false)

-- how far the list grows
reach : (g : _) (c : After-grow g) → length c.self.inside.bits.values + (c.args.value - c.len-len.result + 1) ≡ c.args.value + 1
reach g c = omega (arith, ap (λ bits. length bits.values) c.self.view_is, c.len-len.ensures.value, c.requires)

pub returns : goal.returns
returns g c =
    let long = reach g (goal.at.returns g c).After-grow in
    let count : c.args.value - c.len-len.result + 1 ≡ c.args.value + 1 - length c.self.inside.bits.values = omega (arith, long) in
    record {
      values = rw (← c.self.view_is) (rw count at c.in_ok-grow.ensures.ok);
      unfit = search rules;
      fit = omega (arith, c.ranges.value.fits, c.if-value-eq18446744073709551615.false);
      fails = tt;
      grows = rw (← c.self.view_is) (Grows-changed _ _ _ _ _ _ refl (rw long at c.in_ok-grow.ensures.grows));
      past_blocks = tt;
    }

pub returns-in_err-grow : goal.returns-in_err-grow
returns-in_err-grow g c =
    let p = err_from_is_err_and c.from_residual.result c.from_residual.ensures.1 in
    let failed : c.from_residual.result ≡ Err (Memory c.in_err-grow.field-0.0) = p.1 ∙ ap Err p.2 in
    let long = reach g (goal.at.returns-in_err-grow g c).After-grow in
    let capacity = ap (λ bits. bits.capacity) c.self.view_is in
    let missing : c.args.self.now.capacity ≤ c.args.value = omega (arith, long, capacity, c.in_err-grow.ensures.grows.full) in
    let whole = c.capacity.ensures.whole in
    let enough = mul-le-mul_right g.B.BitBlock.width whole.enough in
    rw failed record {
      values = tt;
      unfit = search rules;
      fit = tt;
      fails = (missing, omega (arith, c.ranges.value.fits, c.if-value-eq18446744073709551615.false));
      grows = rw (← c.self.view_is) (Grows-failed _ _ _ _ _ (rw long at c.in_err-grow.ensures.grows));
      past_blocks = rw (← c.self.view_is) (omega (arith, enough, whole.capacity, capacity, missing));
    }
