use Rattle.std.proofs.Common.{length, ap, sym, ◌∙◌}
use Rattle.bit_blocks.specs.Merges.{merge_of}
use Rattle.set_algebra.proofs.{AlgebraLemmas.elements-merged, SetLemmas.length-elements}
use Rattle.bit_set.proofs.set.BitSet.merged_count.Goals as goal

pub returns : goal.returns
returns g c =
    let first = c.self.inside.bits.values in
    let second = c.other.inside.bits.values in
    rw (← c.self.view_is, ← c.other.view_is)
    (c.count_merged.ensures ∙ sym (length-elements (merge_of c.args.merge first second)) ∙ ap length (elements-merged c.args.merge first second))
