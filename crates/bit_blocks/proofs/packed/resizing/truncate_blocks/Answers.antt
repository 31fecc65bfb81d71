use Rattle.std.proofs.{Common.{◌∙◌, ap, map, sym}, lemmas.List.take-map}
use Rattle.bit_blocks.proofs.packed.resizing.truncate_blocks.Goals as goal

pub returns-clause-numbers : goal.returns-clause-numbers
returns-clause-numbers g c =
    ap (map g.B.BitBlock.number) c.truncate.ensures.items ∙ sym (take-map g.B.BitBlock.number c.args.count c.args.blocks.now.items)
