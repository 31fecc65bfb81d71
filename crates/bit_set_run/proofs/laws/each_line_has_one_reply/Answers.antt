use Rattle.bit_set_run.proofs.OutputLemmas.{line_texts_from-line, length-lines_of-output, lines_of-output}
use Rattle.bit_set_run.proofs.laws.each_line_has_one_reply.Goals as goal

pub returns-clause-as_many : goal.returns-clause-as_many
returns-clause-as_many c = length-lines_of-output

pub returns-clause-replies : goal.returns-clause-replies
returns-clause-replies c = lines_of-output

pub returns-clause-first : goal.returns-clause-first
returns-clause-first c = line_texts_from-line
