use Rattle.bit_set.proofs.JsonLemmas.{members_counted}
use Rattle.bit_set.proofs.json.checking.has_members.Goals as goal

pub returns-in-Some : goal.returns-in-Some
returns-in-Some c = members_counted _ _ c.len.result c.args.count c.len.ensures.len (rw c.in-Some.is at c.as_object.ensures)
