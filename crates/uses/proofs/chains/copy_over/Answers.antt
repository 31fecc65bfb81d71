use Rattle.bit_set.proofs.CallerLemmas.{gives_left, set_of_chain}
use Rattle.uses.proofs.chains.copy_over.Goals as goal

pub returns : goal.returns
returns g c = set_of_chain c.from_iter.result c.from_iter.ensures.ok (gives_left _ c.iter.result c.iter.ensures.left)
