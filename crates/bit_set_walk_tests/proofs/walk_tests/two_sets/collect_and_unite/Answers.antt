use Rattle.std.proofs.Common.{sym, ◌∙◌}
use Rattle.bit_blocks.specs.declared.block.merge.Merge.TheVariants.{Union}
use Rattle.bit_set_walk_tests.proofs.walk_tests.two_sets.collect_and_unite.Goals as goal

pub returns : goal.returns
returns g c =
    let done = c.in_ok-collected.ensures.ok in
    c.collected_walks.ensures.union c.args.set.now.values c.args.other.now.values c.in_ok-collected.collected.values c.union.result done.0 c.union.ensures.left done.1 done.2
    ∙ sym c.in_ok-union_with.ensures.elements
