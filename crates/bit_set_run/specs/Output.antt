-- What the program writes for an input.
use Prim.Native.String.{String}
use Rattle.std.specs.Prelude.{◌≡◌, ℕ, codes, List, [], ◌∷◌, map, Result, Ok, Err}
use Rattle.bit_set_commands.specs.{Reading.reading, declared.commands.Command.Command, declared.commands.Reply.Reply}
use Rattle.bit_set_commands.specs.{Lines.{text_of_lines, lines_of}, declared.reading.BadLine.BadLine}
use Rattle.bit_set_run.specs.Run.{no_sets, run_of, step, Sets}
use Rattle.bit_set_commands.specs.Texts.{text_of, text_of_bad}

-- what a line was read as
abbrev pub Line : Type 0
Line = Result Command BadLine

-- the commands among the lines, in order: a bad line is none
abbrev pub commands_of : List Line → List Command
commands_of [] = []
commands_of (Ok command ∷ lines) = command ∷ commands_of lines
commands_of (Err bad ∷ lines) = commands_of lines

-- A text for each line: for a command that of the next reply. Where the replies end before the commands the rest
-- is dropped, which a run never does: `laws::each_line_has_one_reply` has a text for each line.
abbrev pub line_texts : List Line → List Reply → List (List ℕ)
line_texts [] replies = []
line_texts (Ok command ∷ lines) [] = []
line_texts (Ok command ∷ lines) (reply ∷ replies) = text_of reply ∷ line_texts lines replies
line_texts (Err bad ∷ lines) replies = text_of_bad bad ∷ line_texts lines replies

-- the texts for some lines, whose commands are run on these sets
abbrev pub line_texts_from : Sets → List Line → List (List ℕ)
line_texts_from sets lines = line_texts lines (run_of sets (commands_of lines)).replies

-- the lines of the input are read, their commands are run on sixteen empty sets, and each reply has a byte
-- 10 after it
abbrev pub output : List ℕ → List ℕ
output input = text_of_lines (line_texts_from no_sets (map reading (lines_of input)))

-- each line beside its reply
abbrev pub Gives : List (String × String) → Type 0
Gives rows = output (text_of_lines (map (λ row. codes row.0) rows)) ≡ text_of_lines (map (λ row. codes row.1) rows)

-- one line alone: the text of its reply, and the sets after it
abbrev pub line_text : Sets → Line → List ℕ
line_text sets (Ok command) = text_of (step sets command).reply
line_text sets (Err bad) = text_of_bad bad

abbrev pub sets_after : Sets → Line → Sets
sets_after sets (Ok command) = (step sets command).sets
sets_after sets (Err bad) = sets
