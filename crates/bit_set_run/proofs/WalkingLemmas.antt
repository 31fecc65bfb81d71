-- What is left of a walk past some of its numbers, where each step takes the first of what is left.
use Rattle.std.proofs.Common.{◌≡◌, ℕ, ◌+◌, ◌≤◌, List, [], ◌∷◌, ◌++◌, length, drop, Option, Some, None, ap, sym, ◌∙◌, arith}
use Rattle.std.proofs.lemmas.List.{append_assoc, length-append, drop_all, drop_at}
use Rattle.std.specs.Iterator.{Yields, YieldsFirst, SkipsThenYields}

left_of_yields : {S : Type 0} (steps : S → Option ℕ → S → Type 0) (left : S → List ℕ) → ((s : S) (r : Option ℕ) (t : S) → steps s r t → YieldsFirst left s r t) → (s t : S) (items : List ℕ) → Yields steps s items t → left s ≡ items ++ left t
left_of_yields steps left gives s t [] run = ap left run
left_of_yields steps left gives s t (x ∷ xs) run = gives s (Some x) run.0 run.1 ∙ ap (λ ys. x ∷ ys) (left_of_yields steps left gives run.0 t xs run.2)

-- what is left behind some numbers and one more
pub left_of_skipped : {S : Type 0} (steps : S → Option ℕ → S → Type 0) (left : S → List ℕ) → ((s : S) (r : Option ℕ) (t : S) → steps s r t → YieldsFirst left s r t) → (s u : S) (n : ℕ) (r : Option ℕ) → SkipsThenYields steps s n r u → left u ≡ drop (n + 1) (left s)
left_of_skipped steps left gives s u n None run =
    let t = run.1.0 in
    let before = left_of_yields steps left gives s t run.0 run.1.1 in
    let ended = gives t None u run.1.2 in
    let whole : left s ≡ run.0 ++ [] = before ∙ ap (λ ys. run.0 ++ ys) ended.0 in
    let short : length (left s) ≤ n + 1 = omega (arith, ap length whole, length-append run.0 [], run.2) in
    ended.1 ∙ sym (drop_all (n + 1) (left s) short)
left_of_skipped steps left gives s u n (Some x) run =
    let t = run.1.0 in
    let before = left_of_yields steps left gives s t run.0 run.1.1 in
    let whole : left s ≡ (run.0 ++ x ∷ []) ++ left u = before ∙ ap (λ ys. run.0 ++ ys) (gives t (Some x) u run.1.2) ∙ sym (append_assoc run.0 (x ∷ []) (left u)) in
    let long : length (run.0 ++ x ∷ []) ≡ n + 1 = omega (arith, length-append run.0 (x ∷ []), run.2) in
    sym (ap (drop (n + 1)) whole ∙ drop_at (run.0 ++ x ∷ []) (left u) (n + 1) long)
