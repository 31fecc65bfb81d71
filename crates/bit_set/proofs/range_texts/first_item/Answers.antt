use Rattle.bit_set.proofs.RangeTextLemmas.{more_items, one_item}
use Rattle.bit_set.proofs.range_texts.first_item.Goals as goal

pub returns-in-Some-clause-items : goal.returns-in-Some-clause-items
returns-in-Some-clause-items c = rw (c.in-Some.ensures.joined, c.after_space.ensures) (more_items c.in-Some.item.now c.in-Some.rest.now c.in-Some.ensures.first)

pub returns-in-None-clause-items : goal.returns-in-None-clause-items
returns-in-None-clause-items c = one_item c.args.text.now c.in-None.ensures.whole
