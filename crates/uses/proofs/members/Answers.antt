use Rattle.std.proofs.{lemmas.Iterator.Adapters.fact_from_collect, lemmas.Result.IfOk-weaker}
use Rattle.bit_set.proofs.CallerLemmas.{gives_left}
use Rattle.uses.proofs.members.Goals as goal

pub returns : goal.returns
returns g c =
    IfOk-weaker c.collect.result _ _ (λ v made. made.0)
    (fact_from_collect _ c.collect.result c.collect.ensures.ran (gives_left _ c.iter.result c.iter.ensures.left))
