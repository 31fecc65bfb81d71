use Rattle.bit_set_tests.proofs.set_tests.split_and_join.Goals as goal

pub returns : goal.returns
returns g c =
    let parted = c.in_ok-part.ensures in
    let joined = c.in_ok-append.ensures in
    c.parted_sets.ensures.rejoined c.args.set.now.values c.split_off.new.self.values c.in_ok-part.part.values c.append.new.self.values c.args.at parted.elements parted.length parted.part parted.part_length joined.elements joined.grows.long
