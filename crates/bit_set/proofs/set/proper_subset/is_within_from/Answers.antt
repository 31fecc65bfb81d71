use Rattle.std.proofs.{Common.{map, min, drop, sym, ap, ◌∙◌}, lemmas.List.length-map}
use Rattle.std.specs.{List.drop-map, Prelude.{◌↔◌, IsTrue}}
use Rattle.bit_blocks.specs.{BlockMerges.MergesToFalse, declared.block.merge.Merge.TheVariants.Difference}
use Rattle.bit_set.proofs.ProperLemmas.{rest_decides}
use Rattle.bit_set.proofs.set.proper_subset.is_within_from.Goals as goal

pub returns : goal.returns
returns g c =
    let w = g.B.BitBlock.width in
    let f = g.B.BitBlock.number in
    let at = c.args.start in
    let xs = c.args.blocks.now in
    let ys = c.args.others.now in
    let left = ap (map f) c.split_at.ensures.back ∙ sym (drop-map f c.min.result xs) in
    let right = ap (map f) c.split_at-2.ensures.back ∙ sym (drop-map f c.min-2.result ys) in
    let tells : IsTrue c.difference_is_zero.result
    ↔ MergesToFalse Difference w (drop c.min.result (map f xs)) (drop c.min-2.result (map f ys)) = rw (left, right) at c.difference_is_zero.ensures.zero in
    rest_decides w at c.min.result c.min-2.result (map f xs) (map f ys) c.difference_is_zero.result g.met.B.BitBlock.width_law.positive
    (c.min.ensures ∙ ap (min at) (sym (length-map xs f))) (c.min-2.ensures ∙ ap (min at) (sym (length-map ys f))) c.requires.before tells
