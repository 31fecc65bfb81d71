use Rattle.std.proofs.Common.{◌∙◌}
use Rattle.bit_set.proofs.CallerLemmas.{same_key}
use Rattle.uses.proofs.keep_under.Goals as goal

pub returns : goal.returns
returns g c =
    let found = same_key c.args.set c.args.same.now c.insert.new.self c.requires ∙ c.in_ok-insert.ensures.updates.1 in
    cc
