use Rattle.bit_set_commands.proofs.ReadingLemmas.{name_alone-text}
use Rattle.bit_set_commands.proofs.reading.SetNameOperands.read.Goals as goal

pub returns : goal.returns
returns c = rw (name_alone-text c.args.words.now) c.read_name.ensures
