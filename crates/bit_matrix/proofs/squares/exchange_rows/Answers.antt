use Rattle.std.proofs.{Common.{map, ◌∙◌, arith}, lemmas.List.length-map}
use Rattle.bit_matrix.proofs.SquareLemmas.{exchanged_more}
use Rattle.bit_matrix.proofs.squares.exchange_rows.Goals as goal

pub loop-g-preserved : goal.loop-g-preserved
loop-g-preserved g c =
    let f = g.B.BitBlock.number in
    let ns = map f c.loop-g.blocks in
    let long = length-map c.loop-g.blocks f in
    let before = c.loop-g.invariant in
    let one = rw (c.block_at.ensures.of_number, c.block_at-in-loop-g.ensures.of_number) at c.exchange-above.ensures.exchanged in
    record {
      exchanged = exchanged_more _ _ _ _ c.args.upper c.args.lower c.loop-g.g _ _ (map f c.args.blocks.now) ns
          (map f c.put_in.new.blocks) _ (omega (arith, c.requires.apart, c.loop-g-test.true))
          (omega (arith, long, before.written.len, c.requires.inside, c.loop-g-test.true)) before.exchanged one c.put_in.ensures.numbers
          c.put_in-in-loop-g.ensures.numbers
          (length-map c.put_in.new.blocks f ∙ c.put_in.ensures.len ∙ (omega (arith, long)));
      written = record { each = c.put_in-in-loop-g.ensures.each; len = c.put_in-in-loop-g.ensures.len ∙ c.put_in.ensures.len ∙ before.written.len };
    }
