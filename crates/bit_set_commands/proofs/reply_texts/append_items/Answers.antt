use Rattle.bit_set_commands.proofs.TextLemmas.{items_first, items_more}
use Rattle.bit_set_commands.proofs.reply_texts.append_items.Goals.{then-place-gt0+in_ok-extend_from_slice-2, else-place-gt0}
use Rattle.bit_set_commands.proofs.reply_texts.append_items.Goals as goal

pub loop-place-preserved : goal.loop-place-preserved
loop-place-preserved c = elim c.if-place-gt0.branch [
  | then-place-gt0+in_ok-extend_from_slice-2 w ↦
      rw (c.in_ok-append_decimal.ensures, w.out-is, w.in_ok-extend_from_slice-2.ensures.items, c.loop-place.invariant)
      (items_more c.args.out.now.items c.args.items.now c.loop-place.place w.if-place-gt0.true c.loop-place-test.true)
  | else-place-gt0 w ↦
      rw (c.in_ok-append_decimal.ensures, w.out-is, c.loop-place.invariant)
      (items_first c.args.out.now.items c.args.items.now c.loop-place.place w.if-place-gt0.false c.loop-place-test.true)
]
