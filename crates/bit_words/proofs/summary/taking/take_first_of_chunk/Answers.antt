use Rattle.std.proofs.{Common.{ℕ, ◌+◌, ◌*◌, ◌<◌, ◌≢◌, ◌==◌, false, List, get_or, not, map, length, sym, ap, ◌∙◌, arith}, lemmas.{Bool.true≢false, List.{get_or_past, length-map}}}
use Rattle.bit_blocks.{specs.{Searches.IsFirstFrom, Storage.{WritesValue, is_used}}, proofs.{BitsLemmas.block_begins, ChangeLemmas.lowest_left, SearchLemmas.first_of_whole, UseLemmas.used_past}}
use Rattle.bit_words.proofs.{StartLemmas.{first_of_first, first_used}, SummaryLemmas.changed_summary}
use Rattle.bit_words.proofs.summary.taking.take_first_of_chunk.{Given.Over, Goals.{After-take_lowest_one, After-put_block, then-is_nonzero, else-is_nonzero}}
use Rattle.bit_words.proofs.summary.taking.take_first_of_chunk.Goals as goal

-- a block that is not 0 is one of the list
there : {X : Type 0} (f : X → ℕ) (xs : List X) (k : ℕ) → get_or (map f xs) k 0 ≢ 0 → k < length xs
there f xs k used = grind (arith, used, get_or_past, length-map)

pub block_at-used-requires-clause-in_bounds : goal.block_at-used-requires-clause-in_bounds
block_at-used-requires-clause-in_bounds g c = rw c.deref.ensures.value (there _ _ _ c.requires.first.here)

pub block_at-used-requires-clause-each : goal.block_at-used-requires-clause-each
block_at-used-requires-clause-each g c = rw c.deref.ensures.value c.requires.summary.packed.each

pub overflow_mul-k : goal.overflow_mul-k
overflow_mul-k g c =
    omega (arith, block_begins g.B.BitBlock.width _ c.args.chunk c.bits.result _ g.met.B.BitBlock.width_law.positive c.bits.ensures c.requires.summary.packed.count (there _ _ _ c.requires.first.here), c.requires.summary.packed.fits)

pub take_lowest_one-requires-clause-of_block : goal.take_lowest_one-requires-clause-of_block
take_lowest_one-requires-clause-of_block g c = c.block_at-used.ensures.of_block

pub take_lowest_one-requires-clause-not_zero : goal.take_lowest_one-requires-clause-not_zero
take_lowest_one-requires-clause-not_zero g c = rw (c.block_at-used.ensures.of_number, c.deref.ensures.value) (omega (arith, c.requires.first.here))

-- the block that it is in is the first that is not 0
block : (g : Over) (c : After-take_lowest_one g) → IsFirstFrom (is_used (map g.B.BitBlock.number c.args.blocks.now.items)) 0 (c.args.chunk * c.bits.result + c.take_lowest_one.result)
block g c =
    let w = g.B.BitBlock.width in
    let f = g.B.BitBlock.number in
    first_used w f g.B.BitBlock.is_block c.args.blocks.now.items c.args.summary.now.items g.met.B.BitBlock.width_law.positive c.requires.summary c.args.chunk _ c.requires.first
    (first_of_whole w (map f c.args.summary.now.items) c.args.chunk _ c.bits.result c.take_lowest_one.result
    (rw c.deref.ensures.value at c.block_at-used.ensures.of_number) c.bits.ensures
    c.take_lowest_one.ensures.within c.take_lowest_one.ensures.lowest)

inside : (g : Over) (c : After-take_lowest_one g) → c.args.chunk * c.bits.result + c.take_lowest_one.result < length c.args.blocks.now.items
inside g c =
    let k : ℕ = c.args.chunk * c.bits.result + c.take_lowest_one.result in
    grind (arith, (block g c).passes, used_past (map g.B.BitBlock.number c.args.blocks.now.items) k, length-map)

pub overflow_add-k : goal.overflow_add-k
overflow_add-k g c = omega (arith, inside g (goal.at.overflow_add-k g c).After-take_lowest_one, c.requires.summary.packed.fits)

pub take_first_of_block-i-requires : goal.take_first_of_block-i-requires
take_first_of_block-i-requires g c = record {
  in_bounds = let here = inside g (goal.at.take_first_of_block-i-requires g c).After-take_lowest_one in omega (arith, here);
  each = c.requires.each;
  used = (block g (goal.at.take_first_of_block-i-requires g c).After-take_lowest_one).passes;
  fits = c.requires.fits;
}

pub put_block-requires-clause-in_bounds : goal.put_block-requires-clause-in_bounds
put_block-requires-clause-in_bounds g c = omega (arith, there g.B.BitBlock.number c.args.summary.now.items c.args.chunk c.requires.first.here, c.args.summary.now.ok.0)

pub put_block-requires-clause-each : goal.put_block-requires-clause-each
put_block-requires-clause-each g c = c.requires.summary.packed.each

pub put_block-requires-clause-of_block : goal.put_block-requires-clause-of_block
put_block-requires-clause-of_block g c =
    elim c.if-is_nonzero.branch [ then-is_nonzero w ↦ rw w.left-is c.block_at-used.ensures.of_block | else-is_nonzero w ↦ rw w.left-is c.take_lowest_one.ensures.of_block ]

-- the bit of that block in the summary is left where the block is not 0 now
left : (g : Over) (c : After-put_block g)
    → WritesValue g.B.BitBlock.width (map g.B.BitBlock.number c.args.summary.now.items)
    (map g.B.BitBlock.number c.put_block.new.blocks.items)
    (c.args.chunk * c.bits.result + c.take_lowest_one.result) c.is_nonzero.result
left g c =
    let f = g.B.BitBlock.number in
    let taken = c.take_lowest_one in
    lowest_left g.B.BitBlock.width c.args.chunk c.bits.result taken.result _ _ _ (map f c.args.summary.now.items) _ _ g.met.B.BitBlock.width_law.positive c.bits.ensures taken.ensures.within
    (grind (arith, c.requires.first.here, get_or_past))
    (rw c.deref.ensures.value at c.block_at-used.ensures.of_number) c.put_block.ensures.numbers taken.ensures.lowest taken.ensures.cleared
    (elim c.if-is_nonzero.branch [ then-is_nonzero w ↦ λ one. ap f w.left-is | else-is_nonzero w ↦ λ one. absurd (true≢false (sym one ∙ w.if-is_nonzero.false)) ])
    (elim c.if-is_nonzero.branch [ then-is_nonzero w ↦ λ none. absurd (true≢false (sym w.if-is_nonzero.true ∙ none)) | else-is_nonzero w ↦ λ none. ap f w.left-is ])

pub returns : goal.returns
returns g c = record {
  first =
      first_of_first g.B.BitBlock.width _ _ (map g.B.BitBlock.number c.args.blocks.now.items) g.met.B.BitBlock.width_law.positive
      (block g (goal.at.returns g c).After-take_lowest_one) c.take_first_of_block-i.ensures.first;
  value = c.take_first_of_block-i.ensures.value;
  in_place = c.take_first_of_block-i.ensures.in_place;
  summary =
      let at = goal.at.returns g c in
      let taken = c.take_first_of_block-i.ensures in
      let number = taken.of_number in
      changed_summary g.B.BitBlock.width c.take_first_of_block-i.result.0 _ false c.is_nonzero.result g.B.BitBlock.number
      g.B.BitBlock.is_block c.args.blocks.now c.take_first_of_block-i.new.blocks c.args.summary.now c.put_block.new.blocks
      g.met.B.BitBlock.width_law.positive (λ x is. (g.met.B.BitBlock.number_law x is).0)
      c.requires.each (sym taken.in_its_block) (inside g at.After-take_lowest_one) taken.value taken.in_place c.requires.summary (c.is_nonzero.ensures ∙ ap (λ m. not (m == 0)) number)
      (left g at.After-put_block) c.put_block.ensures.in_place;
  capacity = c.put_block.ensures.in_place.capacity;
}
