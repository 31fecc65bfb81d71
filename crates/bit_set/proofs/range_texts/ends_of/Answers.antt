use Rattle.bit_set.proofs.RangeTextLemmas.{ends_alone, ends_apart}
use Rattle.bit_set.proofs.range_texts.ends_of.Goals as goal

pub returns-in-Some : goal.returns-in-Some
returns-in-Some c = rw c.in-Some.ensures.joined (ends_apart c.in-Some.first.now c.in-Some.last.now c.in-Some.ensures.first)

pub returns-in-None : goal.returns-in-None
returns-in-None c = ends_alone c.args.item.now c.in-None.ensures.whole
