use Rattle.std.proofs.{Common.{◌≡◌, ◌+◌, ◌-◌, length, arith}, lemmas.Result.err_from_is_err_and}
use Rattle.bit_set.proofs.set.BitSet.lengthen.Goals as goal

pub returns-in_err-grow-clause-grows : goal.returns-in_err-grow-clause-grows
returns-in_err-grow-clause-grows g c =
    let p = err_from_is_err_and c.from_residual.result c.from_residual.ensures.1 in
    let len : length c.self.inside.bits.values + (c.args.len - c.len-old.result) ≡ c.args.len = omega (arith, c.len-old.ensures.value, c.if-len-old.true) in
    rw (p.1, p.2, ← c.self.view_is) (rw len at c.in_err-grow.ensures.grows)

pub returns-in_ok-grow-clause-ok : goal.returns-in_ok-grow-clause-ok
returns-in_ok-grow-clause-ok g c = rw (← c.self.view_is) (rw c.len-old.ensures.value at c.in_ok-grow.ensures.ok)

pub returns-in_ok-grow-clause-grows : goal.returns-in_ok-grow-clause-grows
returns-in_ok-grow-clause-grows g c =
    let len : length c.self.inside.bits.values + (c.args.len - c.len-old.result) ≡ c.args.len = omega (arith, c.len-old.ensures.value, c.if-len-old.true) in
    rw (← c.self.view_is) (rw len at c.in_ok-grow.ensures.grows)
