use Rattle.bit_set_commands.proofs.ReadingLemmas.{number_alone-text}
use Rattle.bit_set_commands.proofs.reading.UsizeOperands.read.Goals as goal

pub returns : goal.returns
returns c = rw (number_alone-text c.args.words.now) c.read_number.ensures
