use Rattle.std.proofs.{Common.{◌≡◌, ◌++◌}, lemmas.Result.err_from_is_err_and}
use Rattle.bit_set_commands.specs.{Reading.{followed, within_range}, Words.words_of}
use Rattle.bit_set_commands.proofs.ReadingLemmas.{both, followed-word, followed-words}
use Rattle.bit_set_commands.proofs.{reading.Tuple2Operands.read.Given.Over, reading.Tuple2Operands.read.Goals.In-Some}
use Rattle.bit_set_commands.proofs.reading.Tuple2Operands.read.Goals as goal

pub returns-in_default : goal.returns-in_default
returns-in_default g c = rw (followed-word g.S.Operands.spelled g.T.Operands.spelled c.args.words.now g.met.T.Operands.some c.in_default.ensures.whole)

-- what is said of the first word and of all behind it
cut : (g : Over) (c : In-Some g) → both (within_range g.S.Operands.numbers (g.S.Operands.spelled (words_of c.in-Some.word.now))) (within_range g.T.Operands.numbers (g.T.Operands.spelled (words_of c.in-Some.others.now))) ≡ within_range (λ p. g.S.Operands.numbers p.0 ++ g.T.Operands.numbers p.1) (followed g.S.Operands.spelled g.T.Operands.spelled (words_of c.args.words.now))
cut g c =
    rw c.in-Some.ensures.joined
    (followed-words g.S.Operands.spelled g.T.Operands.spelled g.S.Operands.numbers g.T.Operands.numbers c.in-Some.word.now c.in-Some.others.now c.in-Some.ensures.first)

pub returns-in-Err-BadCommand : goal.returns-in-Err-BadCommand
returns-in-Err-BadCommand g c = rw (← cut g (goal.at.returns-in-Err-BadCommand g c).In-Some, ← c.in-Err-BadCommand.ensures, c.in-Err-BadCommand.field-0-is)

pub returns-in-Err-BadNumber : goal.returns-in-Err-BadNumber
returns-in-Err-BadNumber g c =
    rw (c.and.ensures, ← cut g (goal.at.returns-in-Err-BadNumber g c).In-Some, ← c.in-Err-BadNumber.ensures, c.in-Err-BadNumber.field-0-is, ← c.read-in-Err-BadNumber.ensures)

pub returns-in_err-read-in-Ok : goal.returns-in_err-read-in-Ok
returns-in_err-read-in-Ok g c =
    let p = err_from_is_err_and c.from_residual.result c.from_residual.ensures.1 in
    rw (p.1, p.2, ← cut g (goal.at.returns-in_err-read-in-Ok g c).In-Some, ← c.in-Ok.ensures, ← c.in_err-read-in-Ok.ensures)

pub returns-in_ok-read-in-Ok : goal.returns-in_ok-read-in-Ok
returns-in_ok-read-in-Ok g c = rw (← cut g (goal.at.returns-in_ok-read-in-Ok g c).In-Some, ← c.in-Ok.ensures, ← c.in_ok-read-in-Ok.ensures)
