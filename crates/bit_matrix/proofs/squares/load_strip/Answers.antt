use Rattle.std.proofs.{Common.{◌*◌, map, ap, ◌∙◌, arith}, lemmas.{List.length-map}}
use Rattle.bit_matrix.proofs.SquareLemmas.{loaded_more}
use Rattle.bit_matrix.proofs.squares.load_strip.Goals as goal

pub loop-row-preserved : goal.loop-row-preserved
loop-row-preserved g c =
    let w = g.B.BitBlock.width in
    let f = g.B.BitBlock.number in
    let pos = g.met.B.BitBlock.width_law.positive in
    let before = c.loop-row.invariant in
    let long = length-map c.loop-row.strip f in
    record {
      loaded = loaded_more w c.args.width c.args.stride c.args.k c.loop-row.row _ (map f c.args.blocks.now)
          (map f c.loop-row.strip) _ pos (omega (arith, c.loop-row-test.true, ap (λ n. n * c.args.width) c.bits.ensures))
          (omega (arith, long, before.written.len, c.requires.strip.long))
          (rw (c.bits-in-loop-row.ensures, c.bits-in-loop-row-2.ensures) at c.put_in.ensures.numbers)
          c.block_of_row-block.ensures.of_number before.loaded;
      written = record { each = c.put_in.ensures.each; len = c.put_in.ensures.len ∙ before.written.len };
    }
