-- The parts of a text that is cut at a byte.
use Rattle.std.proofs.Common.{◌≡◌, ◌≢◌, ℕ, true, false, not, ◌==◌, eqb, List, [], ◌∷◌, ◌++◌, length, arith, inl, inr, ap, sym, ◌∙◌, refl, ne_eqb, eq-eqb}
use Rattle.std.proofs.{lemmas.Bool.false≢true, lemmas.Bool.Decides.eqb_tells}
use Rattle.std.proofs.lemmas.List.Elements.{All-nil, All-cons, All-head, All-tail, All-weaker}
use Rattle.std.proofs.lemmas.List.Splits.{length-slice_split, slice_split_none, slice_split_at, join_with_byte-slice_split}
use Rattle.std.specs.List.{All, list_all, join_with_byte, onto_first}
use Rattle.bit_set_commands.specs.Cuts.{Lacks, parts_at}

-- where the byte is lacking there is one part
pub parts_at-one : (byte : ℕ) (text : List ℕ) → Lacks byte text → parts_at byte text ≡ text ∷ []
parts_at-one byte text lacks =
    slice_split_none (λ b. eqb b byte) text (All-weaker (λ b. b ≢ byte) (λ b. eqb b byte ≡ false) (λ b other. ne_eqb b byte other) text lacks)

-- the first part ends at the first such byte
pub parts_at-first : (byte : ℕ) (text rest : List ℕ) → Lacks byte text → parts_at byte (text ++ byte ∷ rest) ≡ text ∷ parts_at byte rest
parts_at-first byte text rest lacks =
    slice_split_at (λ b. eqb b byte) text byte rest
    (All-weaker (λ b. b ≢ byte) (λ b. eqb b byte ≡ false) (λ b other. ne_eqb b byte other) text lacks) (eq-eqb byte byte refl)

-- a text lacks the byte where a test of each of its bytes says so
pub lacks_by_test : (byte : ℕ) (text : List ℕ) → list_all (λ b. not (b == byte)) text ≡ true → Lacks byte text
lacks_by_test byte [] is = All-nil (λ b. b ≢ byte)
lacks_by_test byte (b ∷ bs) is = elim (eqb_tells b byte) [
  | inl same ↦ absurd (false≢true (rw same.0 at is))
  | inr other ↦ All-cons (λ x. x ≢ byte) b bs other.1 (lacks_by_test byte bs (rw other.0 at is))
]

onto_lacks : (byte b : ℕ) (parts : List (List ℕ)) → b ≢ byte → All (Lacks byte) parts → All (Lacks byte) (onto_first b parts)
onto_lacks byte b [] other lack =
    All-cons (Lacks byte) (b ∷ []) [] (All-cons (λ x. x ≢ byte) b [] other (All-nil (λ x. x ≢ byte))) (All-nil (Lacks byte))
onto_lacks byte b (part ∷ parts) other lack =
    All-cons (Lacks byte) (b ∷ part) parts
    (All-cons (λ x. x ≢ byte) b part other (All-head (Lacks byte) part parts lack))
    (All-tail (Lacks byte) part parts lack)

parts_lack : (byte : ℕ) (text : List ℕ) → All (Lacks byte) (parts_at byte text)
parts_lack byte [] = All-cons (Lacks byte) [] [] (All-nil (λ b. b ≢ byte)) (All-nil (Lacks byte))
parts_lack byte (b ∷ bs) =
    elim (eqb_tells b byte) [
      | inl same ↦ rw same.0 (All-cons (Lacks byte) [] (parts_at byte bs) (All-nil (λ b. b ≢ byte)) (parts_lack byte bs))
      | inr other ↦ rw other.0 (onto_lacks byte b (parts_at byte bs) other.1 (parts_lack byte bs))
    ]

pub parts_some : (byte : ℕ) (text : List ℕ) → parts_at byte text ≢ []
parts_some byte text = λ e. let none = ap length e in absurd (omega (arith, none, length-slice_split (λ b. eqb b byte) text))

-- the parts of a text: one at least, none holds the byte, and joined by it they give the text
pub parts_at-are : (byte : ℕ) (text : List ℕ) → (parts_at byte text ≢ []) × All (Lacks byte) (parts_at byte text) × (join_with_byte byte (parts_at byte text) ≡ text)
parts_at-are byte text = (parts_some byte text, parts_lack byte text, join_with_byte-slice_split byte text)

parts_at-joined : (byte : ℕ) (parts : List (List ℕ)) → parts ≢ [] → All (Lacks byte) parts → parts_at byte (join_with_byte byte parts) ≡ parts
parts_at-joined byte [] some lack = absurd (some refl)
parts_at-joined byte (part ∷ []) some lack = parts_at-one byte part (All-head (Lacks byte) part [] lack)
parts_at-joined byte (part ∷ next ∷ parts) some lack =
    parts_at-first byte part (join_with_byte byte (next ∷ parts)) (All-head (Lacks byte) part (next ∷ parts) lack)
    ∙ ap (λ ps. part ∷ ps) (parts_at-joined byte (next ∷ parts) (λ e. cc) (All-tail (Lacks byte) part (next ∷ parts) lack))

-- no other texts are its parts
pub parts_at-only : (byte : ℕ) (text : List ℕ) (parts : List (List ℕ)) → parts ≢ [] → All (Lacks byte) parts → join_with_byte byte parts ≡ text → parts_at byte text ≡ parts
parts_at-only byte text parts some lack joined = ap (parts_at byte) (sym joined) ∙ parts_at-joined byte parts some lack
