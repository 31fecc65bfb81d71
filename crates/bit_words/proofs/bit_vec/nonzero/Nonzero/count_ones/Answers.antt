use Rattle.std.proofs.{Common.{◌≡◌, ◌+◌, take, drop, length-take, sym, ap, ◌∙◌, arith}, lemmas.{Bool.Decides.nat_tests, List.{length-drop, Elements.{All-take, All-drop}}}}
use Rattle.bit_blocks.{specs.Storage.ones_in, proofs.Masks.is_one-bit}
use Rattle.bit_words.{specs.Nonzero.ones_left, proofs.{PendingOnes.{enough_rest, left-ones_split, left-ones_past, left-ones_rest, tells_rest}, bit_vec.nonzero.Nonzero.count_ones.Given.Over}}
use Rattle.bit_words.proofs.bit_vec.nonzero.Nonzero.count_ones.Goals.{After-first_blocks, After-ones_of}
use Rattle.bit_words.proofs.bit_vec.nonzero.Nonzero.count_ones.Goals as goal

-- the blocks past the one of the summary in hand, and those of it
rest_is : (g : Over) (c : After-first_blocks g) → c.first_blocks.result.1.now ≡ drop g.B.BitBlock.width (drop c.self.inside.pending.index (take c.self.inside.pending.end c.self.inside.blocks.now))
rest_is g c = c.first_blocks.ensures.rest ∙ ap (drop g.B.BitBlock.width) (c.split_at-2.ensures.back ∙ ap (drop c.self.inside.pending.index) c.split_at.ensures.front)

chunk_is : (g : Over) (c : After-first_blocks g) → c.first_blocks.result.0.now ≡ take g.B.BitBlock.width (drop c.self.inside.pending.index (take c.self.inside.pending.end c.self.inside.blocks.now))
chunk_is g c = c.first_blocks.ensures.first ∙ ap (take g.B.BitBlock.width) (c.split_at-2.ensures.back ∙ ap (drop c.self.inside.pending.index) c.split_at.ensures.front)

pub ones_by_summary-ones-requires : goal.ones_by_summary-ones-requires
ones_by_summary-ones-requires g c =
    let w = g.B.BitBlock.width in
    let number = g.B.BitBlock.number in
    let is_block = g.B.BitBlock.is_block in
    let it = c.self.inside in
    let at = it.pending.index in
    let end = it.pending.end in
    let ys = take end it.blocks.now in
    let left = ap (λ walk. ones_left number walk.left) c.self.view_is in
    let hand = c.self.invariant.hand in
    rw (c.as_slice.ensures, rest_is g (goal.at.ones_by_summary-ones-requires g c).After-first_blocks) (record {
      each = All-drop is_block w (drop at ys) (All-drop is_block at ys (All-take is_block end it.blocks.now hand.each));
      summary = c.self.invariant.stored.each;
      enough = enough_rest w number is_block at end it.blocks.now it.pending.summary.left hand.ends c.self.invariant.stored;
      digit = tells_rest w number is_block at end it.blocks.now it.pending.summary.left hand.ends c.self.invariant.stored;
      fits = omega (arith, left-ones_rest w number is_block at (number it.pending.bits) ys, left, c.requires.fits);
    })

pub returns-then-not-is_nonzero : goal.returns-then-not-is_nonzero
returns-then-not-is_nonzero g c =
    let number = g.B.BitBlock.number in
    let it = c.self.inside in
    let used_up : number it.pending.bits ≡ 0 = grind (arith, nat_tests, c.is_nonzero.ensures, c.if-not-is_nonzero.true) in
    c.ones_by_summary-ones.ensures
    ∙ ap (ones_in number) (rest_is g (goal.at.returns-then-not-is_nonzero g c).After-first_blocks)
    ∙ sym (left-ones_past g.B.BitBlock.width number g.B.BitBlock.is_block it.pending.index (number it.pending.bits) (take it.pending.end it.blocks.now) used_up)
    ∙ ap (λ walk. ones_left number walk.left) c.self.view_is

pub ones_of-requires : goal.ones_of-requires
ones_of-requires g c =
    let is_block = g.B.BitBlock.is_block in
    let at = c.self.inside.pending.index in
    let ys = take c.self.inside.pending.end c.self.inside.blocks.now in
    let lowest = c.take_lowest_one.ensures in
    let all = left-ones_split g.B.BitBlock.width g.B.BitBlock.number is_block at c.take_lowest_one.result _ _ _ lowest.lowest lowest.within (ap (λ walk. walk.left) c.self.view_is) in
    rw (c.split_at-3.ensures.back, chunk_is g (goal.at.ones_of-requires g c).After-first_blocks) (record {
      each = All-drop is_block c.take_lowest_one.result _
          (All-take is_block g.B.BitBlock.width (drop at ys) (All-drop is_block at ys (All-take is_block c.self.inside.pending.end c.self.inside.blocks.now c.self.invariant.hand.each)));
      fits = omega (arith, all, c.requires.fits);
    })

-- all ones are those past the chunk in hand and those of it
both : (g : Over) (c : After-ones_of g) → c.ones_by_summary-ones.result + c.ones_of.result ≡ ones_left g.B.BitBlock.number c.args.self.left
both g c =
    let w = g.B.BitBlock.width in
    let number = g.B.BitBlock.number in
    let lowest = c.take_lowest_one.ensures in
    let all = left-ones_split w number g.B.BitBlock.is_block c.self.inside.pending.index c.take_lowest_one.result _ _ _ lowest.lowest lowest.within
    (ap (λ walk. walk.left) c.self.view_is) in
    let rest = c.ones_by_summary-ones.ensures
    ∙ ap (ones_in number) (c.first_blocks.ensures.rest ∙ ap (drop w) (c.split_at-2.ensures.back ∙ ap (drop c.self.inside.pending.index) c.split_at.ensures.front)) in
    let chunk = c.ones_of.ensures ∙ ap (ones_in number)
    (c.split_at-3.ensures.back ∙ ap (drop c.take_lowest_one.result)
    (c.first_blocks.ensures.first ∙ ap (take w)
    (c.split_at-2.ensures.back ∙ ap (drop c.self.inside.pending.index) c.split_at.ensures.front))) in
    omega (arith, all, rest, chunk)

pub overflow_add-result : goal.overflow_add-result
overflow_add-result g c = record { fits = omega (arith, both g (goal.at.overflow_add-result g c).After-ones_of, c.requires.fits) }

pub returns : goal.returns
returns g c = both g (goal.at.returns g c).After-ones_of

pub split_at-requires : goal.split_at-requires
split_at-requires g c = c.self.invariant.hand.ends

pub split_at-requires-2 : goal.split_at-requires-2
split_at-requires-2 g c = omega (arith, c.self.invariant.hand.ends, c.self.invariant.hand.within, c.split_at.ensures.front_len)

pub take_lowest_one-requires-clause-of_block : goal.take_lowest_one-requires-clause-of_block
take_lowest_one-requires-clause-of_block g c = c.self.invariant.hand.of_block

pub take_lowest_one-requires-clause-not_zero : goal.take_lowest_one-requires-clause-not_zero
take_lowest_one-requires-clause-not_zero g c = grind (arith, nat_tests, c.is_nonzero.ensures, c.if-not-is_nonzero.false)

pub split_at-requires-3 : goal.split_at-requires-3
split_at-requires-3 g c =
    let it = c.self.inside in
    let i = c.take_lowest_one.result in
    let lowest = c.take_lowest_one.ensures in
    let ys = take it.pending.end it.blocks.now in
    let inside = c.self.invariant.hand.inside i lowest.within (is_one-bit 1 (g.B.BitBlock.number it.pending.bits) i lowest.lowest.one) in
    rw (chunk_is g (goal.at.split_at-requires-3 g c).After-first_blocks)
    (omega (arith, inside, c.self.invariant.hand.ends, lowest.within, length-take g.B.BitBlock.width (drop it.pending.index ys), length-drop it.pending.index ys, length-take it.pending.end it.blocks.now))
