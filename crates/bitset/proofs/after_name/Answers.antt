use Rattle.std.proofs.Common.{ap, ◌∙◌}
use Rattle.std.specs.Vec.Iter.{into_iter_items, into_iter_len}
use Rattle.std.proofs.lemmas.Iterator.{items_from_collect}
use Rattle.std.proofs.lemmas.Iterator.Adapters.{YieldsList-from_skip, YieldsList-from_vec}
use Rattle.bitset.proofs.after_name.Goals as goal

pub returns : goal.returns
returns c =
    let all = c.args.args in
    let same = c.skip.ensures.source in
    items_from_collect c.collect.result c.collect.ensures.ran (YieldsList-from_skip 1 (YieldsList-from_vec (into_iter_items all) (ap into_iter_items same) (ap into_iter_len same ∙ all.rest.ok.0)) c.skip.ensures.count)
