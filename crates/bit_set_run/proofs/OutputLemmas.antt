-- The output, a line at a time.
use Rattle.std.proofs.Common.{◌≡◌, ℕ, suc, length, List, [], ◌∷◌, ◌++◌, map, Ok, Err, refl, ap, sym, ◌∙◌, append_assoc, append-nil}
use Rattle.std.{specs.List.All, proofs.{lemmas.List.length-map, lemmas.List.Elements.{All-cons, All-nil}}}
use Rattle.bit_set_commands.specs.{Cuts.Lacks, Lines.{text_of_lines, lines_of}, Reading.reading}
use Rattle.bit_set_run.specs.{Output.{line_text, line_texts_from, output, sets_after, Line}, Run.{no_sets, step, Sets}}
use Rattle.bit_set_commands.proofs.{LineLemmas.lines_of-all, TextLemmas.{text_of-lacks, text_of_bad-lacks}}

line_text-lacks : (sets : Sets) (line : Line) → Lacks 10 (line_text sets line)
line_text-lacks sets (Ok command) = text_of-lacks (step sets command).reply
line_text-lacks sets (Err bad) = text_of_bad-lacks bad

-- the text for the first line, and those for the others
pub line_texts_from-line : (sets : Sets) (line : Line) (lines : List Line) → line_texts_from sets (line ∷ lines) ≡ line_text sets line ∷ line_texts_from (sets_after sets line) lines
line_texts_from-line sets (Ok command) lines = refl
line_texts_from-line sets (Err bad) lines = refl

-- what is written for some lines, where the commands before them left these sets
unfoldable pub output_from : Sets → List (List ℕ) → List ℕ
output_from sets lines = text_of_lines (line_texts_from sets (map reading lines))

output_from-line : (sets : Sets) (line : List ℕ) (lines : List (List ℕ)) → output_from sets (line ∷ lines) ≡ line_text sets (reading line) ++ 10 ∷ output_from (sets_after sets (reading line)) lines
unfolding output_from
output_from-line sets line lines = ap text_of_lines (line_texts_from-line sets (reading line) (map reading lines))

-- The loop over the lines keeps this: the text so far, and what is written for the lines that are left, are
-- the output. It holds at the start, after each line, and says all where no line is left.
pub output-start : (text input : List ℕ) (sets : Sets) → text ≡ [] → sets ≡ no_sets → text ++ output_from sets (lines_of input) ≡ output input
unfolding output_from
output-start text input sets none same = rw (none, same)

pub output-next : (text next : List ℕ) (sets after : Sets) (rest line left all : List ℕ) → text ++ output_from sets (lines_of rest) ≡ all → lines_of rest ≡ line ∷ lines_of left → next ≡ text ++ (line_text sets (reading line) ++ 10 ∷ []) → after ≡ sets_after sets (reading line) → next ++ output_from after (lines_of left) ≡ all
output-next text next sets after rest line left all done lines written changed =
    rw (written, changed)
    (append_assoc text (line_text sets (reading line) ++ 10 ∷ []) (output_from (sets_after sets (reading line)) (lines_of left))
    ∙ ap (λ ts. text ++ ts) (append_assoc (line_text sets (reading line)) (10 ∷ []) (output_from (sets_after sets (reading line)) (lines_of left)))
    ∙ ap (λ ts. text ++ ts) (sym (output_from-line sets line (lines_of left)))
    ∙ ap (λ ls. text ++ output_from sets ls) (sym lines)
    ∙ done)

pub output-end : (text rest all : List ℕ) (sets : Sets) → text ++ output_from sets (lines_of rest) ≡ all → lines_of rest ≡ [] → text ≡ all
unfolding output_from
output-end text rest all sets done none = sym (append-nil text) ∙ ap (λ ls. text ++ output_from sets ls) (sym none) ∙ done

-- there are as many texts as lines
pub length-line_texts_from : (sets : Sets) (lines : List Line) → length (line_texts_from sets lines) ≡ length lines
length-line_texts_from sets [] = refl
length-line_texts_from sets (line ∷ lines) =
    ap length (line_texts_from-line sets line lines) ∙ ap suc (length-line_texts_from (sets_after sets line) lines)

-- no text has a byte 10 in it
line_texts_from-lack : (sets : Sets) (lines : List Line) → All (Lacks 10) (line_texts_from sets lines)
line_texts_from-lack sets [] = All-nil (Lacks 10)
line_texts_from-lack sets (line ∷ lines) =
    rw (line_texts_from-line sets line lines)
    (All-cons (Lacks 10) (line_text sets line) (line_texts_from (sets_after sets line) lines) (line_text-lacks sets line) (line_texts_from-lack (sets_after sets line) lines))

-- so the lines of the output are these texts
pub lines_of-output : (input : List ℕ) → lines_of (output input) ≡ line_texts_from no_sets (map reading (lines_of input))
lines_of-output input =
    lines_of-all (line_texts_from no_sets (map reading (lines_of input))) (line_texts_from-lack no_sets (map reading (lines_of input)))

pub length-lines_of-output : (input : List ℕ) → length (lines_of (output input)) ≡ length (lines_of input)
length-lines_of-output input =
    ap length (lines_of-output input) ∙ length-line_texts_from no_sets (map reading (lines_of input)) ∙ length-map (lines_of input) reading
