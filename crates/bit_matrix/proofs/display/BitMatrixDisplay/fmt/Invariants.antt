use Rattle.std.{proofs.Common.{◌≡◌, ℕ, List, ◌++◌, drop}, specs.Fmt.{HasWritten, IsPlainFormatter}}
use Rattle.bit_matrix.specs.Compared.{rows_text}
use Rattle.bit_matrix.proofs.display.BitMatrixDisplay.fmt.Given as goal

-- what is written and the rows that are left are the text
abbrev pub invariant-loop-row : goal.invariant-loop-row
invariant-loop-row g l =
    IsPlainFormatter l.fn.f → (done : List ℕ) × HasWritten g.W.Write.write_str_gives l.fn.f done l.f × (done ++ rows_text (drop l.row l.self.rows) ≡ rows_text l.self.rows)
