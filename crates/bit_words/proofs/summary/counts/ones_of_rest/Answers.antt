use Rattle.std.proofs.Common.{◌≡◌, ◌≤◌, ◌<◌, ◌*◌, ◌∙◌, ℕ, [], List, length, map, min, max, refl, sym, ap, arith}
use Rattle.std.proofs.lemmas.{List.length-map, Nat.le-div}
use Rattle.bit_blocks.{specs.{Storage.value_at, declared.block.merge.Merge.Merge}, proofs.StorageLemmas.value_at-past}
use Rattle.bit_words.{specs.MergedOnes.merged_ones, proofs.MergedOnesLemmas.merged_same}
use Rattle.bit_words.proofs.summary.counts.ones_of_rest.Goals as goal

module _ {X : Type 0} (merge : Merge) (w : ℕ) (number : X → ℕ) (xs ys : List X) (both : ℕ) (pos : 0 < w) (end : both ≡ min (length xs) (length ys)) where
  -- past its end a list has the values of an empty one
  none_past : (zs : List X) → length zs ≤ both → (i : ℕ) → both * w ≤ i → value_at w (map number zs) i ≡ value_at w [] i
  none_past zs past i from =
      let block = le-div both i w pos from in
      value_at-past w (map number zs) i (omega (arith, block, past, length-map zs number)) ∙ sym (value_at-past w [] i (omega arith))

  first_alone : both < length xs → merged_ones merge w (map number xs) [] both (length xs) ≡ merged_ones merge w (map number xs) (map number ys) both (max (length xs) (length ys))
  first_alone long =
      merged_same merge w (map number xs) [] (map number xs) (map number ys) both (length xs) (λ i from. refl) (λ i from. sym (none_past ys (omega (arith, end, long)) i from))
      ∙ ap (merged_ones merge w (map number xs) (map number ys) both) (omega (arith, end, long))

  second_alone : length xs ≤ both → merged_ones merge w [] (map number ys) both (length ys) ≡ merged_ones merge w (map number xs) (map number ys) both (max (length xs) (length ys))
  second_alone short =
      merged_same merge w [] (map number ys) (map number xs) (map number ys) both (length ys) (λ i from. sym (none_past xs short i from)) (λ i from. refl)
      ∙ ap (merged_ones merge w (map number xs) (map number ys) both) (omega (arith, end, short))

pub returns-then-blocks-both : goal.returns-then-blocks-both
returns-then-blocks-both g c =
    c.ones_of_either.ensures ∙ first_alone g.O.Operation.merge g.B.BitBlock.width g.B.BitBlock.number c.args.blocks.now c.args.others.now c.args.both
    g.met.B.BitBlock.width_law.positive c.requires.end c.if-blocks-both.true

pub returns-else-blocks-both : goal.returns-else-blocks-both
returns-else-blocks-both g c =
    c.ones_of_either-else-blocks-both.ensures ∙ second_alone g.O.Operation.merge g.B.BitBlock.width g.B.BitBlock.number c.args.blocks.now c.args.others.now c.args.both
    g.met.B.BitBlock.width_law.positive c.requires.end c.if-blocks-both.false

pub ones_of_either-requires-clause-fits : goal.ones_of_either-requires-clause-fits
ones_of_either-requires-clause-fits g c =
    let alone = first_alone g.O.Operation.merge g.B.BitBlock.width g.B.BitBlock.number c.args.blocks.now c.args.others.now c.args.both
    g.met.B.BitBlock.width_law.positive c.requires.end c.if-blocks-both.true in
    omega (arith, alone, c.requires.fits)

pub ones_of_either-requires-else-blocks-both-clause-fits : goal.ones_of_either-requires-else-blocks-both-clause-fits
ones_of_either-requires-else-blocks-both-clause-fits g c =
    let alone = second_alone g.O.Operation.merge g.B.BitBlock.width g.B.BitBlock.number c.args.blocks.now c.args.others.now c.args.both
    g.met.B.BitBlock.width_law.positive c.requires.end c.if-blocks-both.false in
    omega (arith, alone, c.requires.fits)
