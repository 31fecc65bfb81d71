-- `lines_of`, a line at a time, and that it gives the lines of the input and no others.
use Rattle.std.proofs.Common.{◌≡◌, ◌≢◌, ℕ, ◌==◌, inl, inr, false, List, [], ◌∷◌, ◌++◌, length, ap, sym, ◌∙◌, refl, ne_eqb, append_assoc, Option, None, Some, IfSome, IfNone, unwrap_or, Bor}
use Rattle.std.proofs.{lemmas.Bool.false≢true, lemmas.Bool.Decides.eqb_tells, lemmas.List.same_from_push}
use Rattle.std.{specs.List.{All, onto_first}, proofs.lemmas.List.Elements.{All-nil, All-cons, All-head, All-tail}}
use Rattle.bit_set_commands.specs.{Cuts.Lacks, Lines.{lines_of, text_of_lines, EndsWithBytes, AreLines}}

-- a line that a byte 10 ends
pub lines_of-ended : (text rest : List ℕ) → Lacks 10 text → lines_of (text ++ 10 ∷ rest) ≡ text ∷ lines_of rest
lines_of-ended [] rest lacks = refl
lines_of-ended (b ∷ bs) rest lacks =
    rw (ne_eqb b 10 (All-head (λ x. x ≢ 10) b bs lacks), lines_of-ended bs rest (All-tail (λ x. x ≢ 10) b bs lacks))

-- a last line that no byte 10 ends
pub lines_of-open : (b : ℕ) (bs : List ℕ) → Lacks 10 (b ∷ bs) → lines_of (b ∷ bs) ≡ (b ∷ bs) ∷ []
lines_of-open b [] lacks = rw (ne_eqb b 10 (All-head (λ x. x ≢ 10) b [] lacks))
lines_of-open b (d ∷ bs) lacks =
    rw (ne_eqb b 10 (All-head (λ x. x ≢ 10) b (d ∷ bs) lacks), lines_of-open d bs (All-tail (λ x. x ≢ 10) b (d ∷ bs) lacks))

-- where one line at least is open, a line in front is not the last
last_below : (text : List ℕ) (lines : List (List ℕ)) (rest : List ℕ) → rest ++ 10 ∷ [] ≡ text_of_lines lines → EndsWithBytes lines → EndsWithBytes (text ∷ lines)
last_below text [] [] e last = cc
last_below text [] (b ∷ bs) e last = cc
last_below text (line ∷ lines) rest e last = last

-- one more line in front, which a byte 10 ends
in_front : (text rest : List ℕ) (lines : List (List ℕ)) → Lacks 10 text → AreLines rest lines → AreLines (text ++ 10 ∷ rest) (text ∷ lines)
in_front text rest lines lacks are = record {
  whole = All-cons (Lacks 10) text lines lacks are.whole;
  joined = elim are.joined [
    | inl all ↦ inl (ap (λ bs. text ++ 10 ∷ bs) all)
    | inr short ↦ inr (append_assoc text (10 ∷ rest) (10 ∷ []) ∙ ap (λ bs. text ++ 10 ∷ bs) short.0, last_below text lines rest short.0 short.1)
  ];
}

some : (xs : List ℕ) → xs ++ 10 ∷ [] ≡ [] → ⊥
some [] e = cc
some (x ∷ xs) e = cc

last_longer : (b : ℕ) (line : List ℕ) (lines : List (List ℕ)) → EndsWithBytes (line ∷ lines) → EndsWithBytes ((b ∷ line) ∷ lines)
last_longer b line [] last = λ e. cc
last_longer b line (next ∷ lines) last = last

-- one more byte in front of the first line
longer : (b : ℕ) (bs : List ℕ) (lines : List (List ℕ)) → b ≢ 10 → AreLines bs lines → AreLines (b ∷ bs) (onto_first b lines)
longer b bs [] other are = record {
  whole = All-cons (Lacks 10) (b ∷ []) [] (All-cons (λ x. x ≢ 10) b [] other (All-nil (λ x. x ≢ 10))) (All-nil (Lacks 10));
  joined = elim are.joined [
    | inl all ↦ inr (ap (λ xs. b ∷ (xs ++ 10 ∷ [])) all, (λ e. cc))
    | inr short ↦ absurd (some bs short.0)
  ];
}
longer b bs (line ∷ lines) other are = record {
  whole = All-cons (Lacks 10) (b ∷ line) lines
      (All-cons (λ x. x ≢ 10) b line other (All-head (Lacks 10) line lines are.whole))
      (All-tail (Lacks 10) line lines are.whole);
  joined = elim are.joined [
    | inl all ↦ inl (ap (λ xs. b ∷ xs) all)
    | inr short ↦ inr (ap (λ xs. b ∷ xs) short.0, last_longer b line lines short.1)
  ];
}

-- every input has its lines
pub lines_of-are : (input : List ℕ) → AreLines input (lines_of input)
lines_of-are [] = record { whole = All-nil (Lacks 10); joined = inl refl }
lines_of-are (b ∷ bs) =
    elim (eqb_tells b 10) [
      | inl ten ↦ rw (ten.0, ten.1) (in_front [] bs (lines_of bs) (All-nil (λ x. x ≢ 10)) (lines_of-are bs))
      | inr other ↦ rw other.0 (longer b bs (lines_of bs) other.1 (lines_of-are bs))
    ]

-- texts of which each has a byte 10 after it are the lines of the whole
pub lines_of-all : (lines : List (List ℕ)) → All (Lacks 10) lines → lines_of (text_of_lines lines) ≡ lines
lines_of-all [] lack = refl
lines_of-all (line ∷ lines) lack =
    rw (lines_of-ended line (text_of_lines lines) (All-head (Lacks 10) line lines lack), lines_of-all lines (All-tail (Lacks 10) line lines lack))

-- with a byte 10 after each, the last byte is that
ended_ends : (line : List ℕ) (lines : List (List ℕ)) → (front : List ℕ) × (text_of_lines (line ∷ lines) ≡ front ++ 10 ∷ [])
ended_ends line [] = (line, refl)
ended_ends line (next ∷ lines) =
    let found : (front : List ℕ) × (text_of_lines (next ∷ lines) ≡ front ++ 10 ∷ []) = ended_ends next lines in
    (line ++ 10 ∷ found.0, ap (λ bs. line ++ 10 ∷ bs) found.1 ∙ sym (append_assoc line (10 ∷ found.0) (10 ∷ [])))

-- the same where the last of them has none
lines_of-short : (lines : List (List ℕ)) (input : List ℕ) → All (Lacks 10) lines → input ++ 10 ∷ [] ≡ text_of_lines lines → EndsWithBytes lines → lines_of input ≡ lines
lines_of-short [] [] lack e last = cc
lines_of-short [] (b ∷ bs) lack e last = cc
lines_of-short ([] ∷ []) input lack e last = absurd (last refl)
lines_of-short ((b ∷ bs) ∷ []) input lack e last =
    ap lines_of (same_from_push input (b ∷ bs) 10 10 e).0 ∙ lines_of-open b bs (All-head (Lacks 10) (b ∷ bs) [] lack)
lines_of-short (line ∷ next ∷ lines) input lack e last =
    let found : (front : List ℕ) × (text_of_lines (next ∷ lines) ≡ front ++ 10 ∷ []) = ended_ends next lines in
    let same : input ≡ line ++ 10 ∷ found.0 =
    (same_from_push input (line ++ 10 ∷ found.0) 10 10 (e ∙ ap (λ bs. line ++ 10 ∷ bs) found.1 ∙ sym (append_assoc line (10 ∷ found.0) (10 ∷ [])))).0 in
    ap lines_of same ∙ lines_of-ended line found.0 (All-head (Lacks 10) line (next ∷ lines) lack)
    ∙ ap (λ rest. line ∷ rest) (lines_of-short (next ∷ lines) found.0 (All-tail (Lacks 10) line (next ∷ lines) lack) (sym found.1) last)

-- no other texts are its lines
pub lines_of-only : (input : List ℕ) (lines : List (List ℕ)) → AreLines input lines → lines ≡ lines_of input
lines_of-only input lines are =
    elim are.joined [
      | inl all ↦ sym (ap lines_of all ∙ lines_of-all lines are.whole)
      | inr short ↦ sym (lines_of-short lines input are.whole short.0 short.1)
    ]

-- what is before the first byte 10 of an input is its first line
pub lines_of-first : (input : List ℕ) (found : Option (Bor (List ℕ) × Bor (List ℕ))) (whole parts : Bor (List ℕ) × Bor (List ℕ)) → false ≡ (length input == 0) → IfNone found (Lacks 10 input) → IfSome found (λ p. Lacks 10 p.0.now) → IfSome found (λ p. input ≡ p.0.now ++ 10 ∷ p.1.now) → whole.0.now ≡ input → whole.1.now ≡ [] → parts ≡ unwrap_or found whole → lines_of input ≡ parts.0.now ∷ lines_of parts.1.now
lines_of-first [] found whole parts some lacks first joined front rest same = absurd (false≢true some)
lines_of-first (b ∷ bs) None whole parts some lacks first joined front rest same =
    rw (same, front, rest) (lines_of-open b bs lacks)
lines_of-first (b ∷ bs) (Some p) whole parts some lacks first joined front rest same =
    rw same (ap lines_of joined ∙ lines_of-ended p.0.now p.1.now first)
