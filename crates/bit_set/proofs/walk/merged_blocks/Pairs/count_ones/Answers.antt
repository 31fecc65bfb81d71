use Rattle.std.proofs.{Common.{◌≡◌, ◌∙◌, max, length, map, arith}, lemmas.List.Elements.All-same}
use Rattle.bit_words.specs.MergedOnes.{merged_ones}
use Rattle.set_algebra.specs.Sets.{elements}
use Rattle.bit_set.proofs.{TallyLemmas.merged_elements, walk.merged_blocks.Pairs.count_ones.Goals.After-as_slice-2}
use Rattle.bit_set.proofs.walk.merged_blocks.Pairs.count_ones.Goals as goal

-- the ones of both slices are those of all that is ahead
ahead : (g : _) (c : After-as_slice-2 g) →
    let n = g.B.BitBlock.number in
    let xs = c.as_slice.result.now in
    let ys = c.as_slice-2.result.now in
    merged_ones g.O.Operation.merge g.B.BitBlock.width (map n xs) (map n ys) 0 (max (length xs) (length ys)) ≡ length (elements c.args.self.values)
ahead g c =
    rw (← c.self.view_is, ← c.as_slice.ensures, ← c.as_slice-2.ensures)
    (merged_elements g.B.BitBlock.width g.B.BitBlock.number g.O.Operation.merge _ _ g.met.B.BitBlock.width_law.positive)

pub count_merged_blocks-requires : goal.count_merged_blocks-requires
count_merged_blocks-requires g c = record {
  each = All-same g.B.BitBlock.is_block _ c.self.inside.first.left c.as_slice.ensures c.self.invariant.0;
  others = All-same g.B.BitBlock.is_block _ c.self.inside.second.left c.as_slice-2.ensures c.self.invariant.1;
  fits = omega (arith, ahead g (goal.at.count_merged_blocks-requires g c).After-as_slice-2, c.requires);
}

pub returns : goal.returns
returns g c = c.count_merged_blocks.ensures ∙ ahead g (goal.at.returns g c).After-as_slice-2
