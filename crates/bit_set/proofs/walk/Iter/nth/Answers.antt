use Rattle.std.proofs.Common.{◌≡◌, ◌+◌, ◌-◌, subst, arith}
use Rattle.bit_set.{specs.Indexes.Passes, proofs.NthLemmas.{one_more, skips, skips_to_end, some_more}}
use Rattle.bit_set.proofs.walk.Iter.nth.Goals as goal

pub returns-in_err-next : goal.returns-in_err-next
returns-in_err-next g c =
    rw c.from_residual.ensures (skips_to_end g.B.BitBlock.width c.args.self.now c.loop-ahead.self c.next.new.self
    (c.args.n - c.loop-ahead.ahead) c.args.n c.loop-ahead.invariant.so (omega arith) c.in_err-next.ensures.steps)

pub loop-ahead-preserved : goal.loop-ahead-preserved
loop-ahead-preserved g c =
    let w = g.B.BitBlock.width in
    let ahead = c.loop-ahead.ahead in
    let passed = c.pass_blocks-ahead.result in
    let u = c.pass_blocks-ahead.new.self in
    let one = one_more w c.args.self.now c.loop-ahead.self c.next.new.self (c.args.n - ahead) c.in_ok-next.field-0 c.loop-ahead.invariant.so c.in_ok-next.ensures.steps in
    let all = some_more w c.args.self.now c.next.new.self u (c.args.n - ahead + 1) passed one c.pass_blocks-ahead.ensures.walk in
    let calls : c.args.n - ahead + 1 + passed ≡ c.args.n - (ahead - 1 - passed) = omega (arith, c.loop-ahead.invariant.within, c.pass_blocks-ahead.ensures.within, c.loop-ahead-test.true) in
    record {
      within = omega (arith, c.loop-ahead.invariant.within);
      so = subst (λ n. Passes w n c.args.self.now u) calls all;
    }

pub returns : goal.returns
returns g c =
    let w = g.B.BitBlock.width in
    let calls : c.args.n - c.loop-ahead.ahead ≡ c.args.n = omega (arith, c.loop-ahead-test.false) in
    skips w c.args.self.now c.loop-ahead.self c.next-2.new.self c.args.n c.next-2.result c.ascends.ensures
    (subst (λ n. Passes w n c.args.self.now c.loop-ahead.self) calls c.loop-ahead.invariant.so) c.next-2.ensures.steps
