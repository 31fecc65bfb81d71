use Rattle.std.proofs.{Common.{◌≡◌, ◌-◌, ◌*◌, ◌/◌, ◌≤◌, ◌&&◌, pow_pos, leb, min, length, get_or, ap, refl, sym, subst, ◌∙◌, arith}, lemmas.List.length-map}
use Rattle.bit_blocks.specs.{Bits.blocks_for, Digits.is_one}
use Rattle.bit_words.specs.Nonzero.{CutsAt, Hand, walk_past}
use Rattle.bit_set.specs.{Indexes.{seen_of, IsSparseWalk}, Walk.IsAtStartOfPart}
use Rattle.bit_set.proofs.{FromLemmas.{begins_from}, PartLemmas.begins_part, SparseLemmas.whole_index, WalkLemmas.length-blocks, walk.Iter.over_part.Goals.After-clear_from}
use Rattle.bit_set.proofs.walk.Iter.over_part.Goals as goal

-- the walk as it is made
begun : (g : _) (c : After-clear_from g) →
    let front : Hand _ = record { block = c.clear_from.result; index = c.block_from-first.result.0 * c.bits.result } in
    let back : Hand _ = record { block = c.nonzero_between-nonzero.result.1; index = c.last_of_part-last.result * c.bits-2.result } in
    IsSparseWalk g.B.BitBlock.width g.B.BitBlock.number g.B.BitBlock.is_block front c.nonzero_between-nonzero.result.0 back
    × IsAtStartOfPart g.B.BitBlock.width c.args.bits.now.values c.args.start c.args.end (seen_of g.B.BitBlock.width g.B.BitBlock.number front c.nonzero_between-nonzero.result.0 back)
begun g c =
    let w = g.B.BitBlock.width in
    let number = g.B.BitBlock.number in
    let is_block = g.B.BitBlock.is_block in
    let pos = g.met.B.BitBlock.width_law.positive in
    let values = c.args.bits.now.values in
    let k = c.block_from-first.result.0 in
    let block = c.block_from-first.result.1 in
    let last = c.last_of_part-last.result in
    let made = c.nonzero_between-nonzero.ensures in
    let xs = c.nonzero_between-nonzero.result.0.blocks in
    let s = walk_past w number k xs in
    let naught = g.B.BitBlock.block 0 in
    let zero = g.met.B.BitBlock.block_law 0 (pow_pos w) in
    let same = made.blocks ∙ sym c.storage-blocks.ensures.numbers in
    let count = sym (length-map xs number) ∙ ap length same ∙ length-map c.storage-blocks.result.now number in
    let at : k ≡ min (c.args.start / w) (length xs - 1) = c.block_from-first.ensures.at ∙ ap (λ n. min (c.args.start / w) (n - 1)) (sym count) in
    let first : min k (length xs - 1) ≡ k = omega (arith, at) in
    let begins = begins_from w number is_block values c.args.start k block naught s pos (λ x is. (g.met.B.BitBlock.number_law x is).0)
    (record { numbers = made.blocks; each = made.each; start = refl; fits = omega (arith, made.fits.holds_values, made.fits.fits) })
    c.block_from-first.ensures.of_block zero.0 zero.1
    (record { at = at; digit = λ j to. c.block_from-first.ensures.digits j to ∙ ap (λ m. leb (c.args.start - k * w) j && is_one m j) (ap (λ ms. get_or ms k 0) (sym same)) }) in
    let k_is = whole_index w k pos in
    let last_is = whole_index w last pos in
    let top_is = whole_index w (length xs - 1) pos in
    let top = length-blocks w number xs values made.blocks in
    rw (c.bits.ensures, c.bits-2.ensures) (begins_part w number is_block pos (λ x is. (g.met.B.BitBlock.number_law x is).0) values c.args.start c.args.end (record { block = block; index = k * w })
    (record { block = naught; index = (length xs - 1) * w }) (record { block = c.nonzero_between-nonzero.result.1; index = last * w }) s c.nonzero_between-nonzero.result.0 c.clear_from.result
    (record {
      begins = begins;
      used_up = zero.1;
      start = rw k_is refl;
      last = top_is ∙ ap (λ n. n - 1) top;
      at = last_is ∙ c.last_of_part-last.ensures ∙ omega (arith, k_is, top_is, count);
      whole = ap (λ n. n * w) (sym last_is);
      cut = rw last_is (subst (λ i. CutsAt w number last (c.args.end - last * w) (walk_past w number i xs) c.nonzero_between-nonzero.result.1 c.nonzero_between-nonzero.result.0) first
          (rw (c.saturating_sub.ensures, c.bits-2.ensures) at made.cut));
      at_back = c.nonzero_between-nonzero.ensures.of_block;
      in_hand = c.clear_from.ensures.of_block;
      digit = rw (c.saturating_sub-2.ensures, c.bits.ensures) at c.clear_from.ensures.digits;
      pulled = refl;
      few = rw (last_is, k_is) (subst (λ i. c.nonzero_between-nonzero.result.0.summary_left ≤ blocks_for w last - 1 - i / w) first made.summary);
    }))

pub invariant_of-result : goal.invariant_of-result
invariant_of-result g c = (begun g c).0

pub returns : goal.returns
returns g c = (begun g c).1
