use Rattle.bit_set.specs.{Members.UpdatesRange, Sets.elements}
use Rattle.std.proofs.Common.{true}
use Rattle.dataflow.proofs.SettleLemmas.{all_below_in}
use Rattle.dataflow.proofs.waiting.all_below.Goals as goal

pub returns-clause-all : goal.returns-clause-all
returns-clause-all g c =
    let members : UpdatesRange (λ _. true) (elements c.in_ok-set.set.values) (elements c.insert_range.new.self.values) 0 c.args.count = rw c.unwrap.ensures at c.insert_range.ensures.members in
    all_below_in c.args.count _ _ c.in_ok-set.ensures.members members
