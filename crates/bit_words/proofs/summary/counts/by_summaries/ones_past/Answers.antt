use Rattle.std.proofs.Common.{◌≡◌, ◌+◌, ◌*◌, ◌<◌, ◌≤◌, ◌∙◌, true, drop, length, map, max, sym, arith}
use Rattle.std.proofs.lemmas.List.{length-map}
use Rattle.bit_blocks.{specs.Storage.ones_in, proofs.VectorLemmas.numbers_below}
use Rattle.bit_words.specs.MergedOnes.{merged_at, merged_ones}
use Rattle.bit_words.proofs.MergedOnesLemmas.{merged_le, none_past_first, none_past_second, ones_of_drop, past_first, past_second}
use Rattle.bit_words.proofs.summary.counts.by_summaries.ones_past.{Given.Over, Goals.{After-keeps_first, After-keeps_second}}
use Rattle.bit_words.proofs.summary.counts.by_summaries.ones_past.Goals as goal

-- what the first list has past the second, where the merge keeps that
first_kept : (g : Over) (c : After-keeps_first g) → length c.args.others.now < length c.args.blocks.now → c.keeps_first.result ≡ true →
    let w = g.B.BitBlock.width in
    let number = g.B.BitBlock.number in
    let from = c.args.first * w in
    ones_in number (drop from c.args.blocks.now) ≡ merged_ones g.O.Operation.merge w (map number c.args.blocks.now) (map number c.args.others.now) from
    (from + max (length c.args.blocks.now) (length c.args.others.now))
first_kept g c longer kept =
    let w = g.B.BitBlock.width in
    let number = g.B.BitBlock.number in
    let m = g.O.Operation.merge in
    let xs = c.args.blocks.now in
    let ys = c.args.others.now in
    let from = c.args.first * w in
    let pos = g.met.B.BitBlock.width_law.positive in
    ones_of_drop w number xs pos (numbers_below w number g.B.BitBlock.is_block xs (λ x is. (g.met.B.BitBlock.number_law x is).0) c.requires.each) (merged_at m w (map number xs) (map number ys)) from
    (λ i reached. past_second m w (map number xs) (map number ys) true from i (sym c.keeps_first.ensures ∙ kept) pos (rw length-map (omega (arith, longer, c.requires.ended))) reached)
    (from + max (length xs) (length ys)) (omega arith) (omega arith)

-- and the second past the first
second_kept : (g : Over) (c : After-keeps_second g) → length c.args.blocks.now ≤ length c.args.others.now → c.keeps_second.result ≡ true →
    let w = g.B.BitBlock.width in
    let number = g.B.BitBlock.number in
    let from = c.args.first * w in
    ones_in number (drop from c.args.others.now) ≡ merged_ones g.O.Operation.merge w (map number c.args.blocks.now) (map number c.args.others.now) from
    (from + max (length c.args.blocks.now) (length c.args.others.now))
second_kept g c longer kept =
    let w = g.B.BitBlock.width in
    let number = g.B.BitBlock.number in
    let m = g.O.Operation.merge in
    let xs = c.args.blocks.now in
    let ys = c.args.others.now in
    let from = c.args.first * w in
    let pos = g.met.B.BitBlock.width_law.positive in
    ones_of_drop w number ys pos (numbers_below w number g.B.BitBlock.is_block ys (λ x is. (g.met.B.BitBlock.number_law x is).0) c.requires.others) (merged_at m w (map number xs) (map number ys)) from
    (λ i reached. past_first m w (map number xs) (map number ys) true from i (sym c.keeps_second.ensures ∙ kept) pos (rw length-map (omega (arith, longer, c.requires.ended))) reached)
    (from + max (length xs) (length ys)) (omega arith) (omega arith)

pub returns-then-keeps_first : goal.returns-then-keeps_first
returns-then-keeps_first g c =
    c.ones_from.ensures ∙ first_kept g (goal.at.returns-then-keeps_first g c).After-keeps_first c.if-blocks-others.true c.if-keeps_first.true

pub returns-else-keeps_first : goal.returns-else-keeps_first
returns-else-keeps_first g c =
    let w = g.B.BitBlock.width in
    let from = c.args.first * w in
    sym (none_past_second g.O.Operation.merge w (map g.B.BitBlock.number c.args.blocks.now) (map g.B.BitBlock.number c.args.others.now) from (from + max (length c.args.blocks.now) (length c.args.others.now))
    (sym c.keeps_first.ensures ∙ c.if-keeps_first.false) g.met.B.BitBlock.width_law.positive (rw length-map (omega (arith, c.if-blocks-others.true, c.requires.ended))))

pub returns-then-keeps_second : goal.returns-then-keeps_second
returns-then-keeps_second g c =
    c.ones_from-then-keeps_second.ensures ∙ second_kept g (goal.at.returns-then-keeps_second g c).After-keeps_second c.if-blocks-others.false c.if-keeps_second.true

pub returns-else-keeps_second : goal.returns-else-keeps_second
returns-else-keeps_second g c =
    let w = g.B.BitBlock.width in
    let from = c.args.first * w in
    sym (none_past_first g.O.Operation.merge w (map g.B.BitBlock.number c.args.blocks.now) (map g.B.BitBlock.number c.args.others.now) from (from + max (length c.args.blocks.now) (length c.args.others.now))
    (sym c.keeps_second.ensures ∙ c.if-keeps_second.false) g.met.B.BitBlock.width_law.positive (rw length-map (omega (arith, c.if-blocks-others.false, c.requires.ended))))

pub ones_from-requires-clause-fits : goal.ones_from-requires-clause-fits
ones_from-requires-clause-fits g c =
    let alone = first_kept g (goal.at.ones_from-requires-clause-fits g c).After-keeps_first c.if-blocks-others.true c.if-keeps_first.true in
    let from = c.args.first * g.B.BitBlock.width in
    let end = from + max (length c.args.blocks.now) (length c.args.others.now) in
    let most = merged_le g.O.Operation.merge g.B.BitBlock.width (map g.B.BitBlock.number c.args.blocks.now) (map g.B.BitBlock.number c.args.others.now) 0 from end end (omega arith) (omega arith) (omega arith) in
    omega (arith, alone, most, c.requires.fits end)

pub ones_from-requires-then-keeps_second-clause-fits : goal.ones_from-requires-then-keeps_second-clause-fits
ones_from-requires-then-keeps_second-clause-fits g c =
    let alone = second_kept g (goal.at.ones_from-requires-then-keeps_second-clause-fits g c).After-keeps_second c.if-blocks-others.false c.if-keeps_second.true in
    let from = c.args.first * g.B.BitBlock.width in
    let end = from + max (length c.args.blocks.now) (length c.args.others.now) in
    let most = merged_le g.O.Operation.merge g.B.BitBlock.width (map g.B.BitBlock.number c.args.blocks.now) (map g.B.BitBlock.number c.args.others.now) 0 from end end (omega arith) (omega arith) (omega arith) in
    omega (arith, alone, most, c.requires.fits end)
