use Rattle.bit_set_walk_tests.proofs.agreement_tests.next_of_both.Goals as goal

pub returns : goal.returns
returns g c =
    let step = c.walks_agree.ensures.iter.step c.args.a.now c.next.new.self c.args.b.now c.next-2.new.self c.next.result c.next-2.result c.requires c.next.ensures.steps c.next-2.ensures.steps in
    record { items = step.0; left = step.1 }
