use Rattle.std.proofs.lemmas.Map.Made.{lookup-map_values}
use Rattle.bit_set_commands.proofs.verbs.verb_of.Goals as goal

pub returns : goal.returns
returns c = rw (c.lookup.ensures, ← lookup-map_values)
