use Rattle.std.proofs.{Common.{ℕ, ◌≡◌, ◌+◌, ◌<◌, List, [], ◌∷◌, get_or, drop, length, false, true, sym, ap, ◌∙◌, arith, rules}, lemmas.List.{drop_all, drop_more}}
use Rattle.bit_words.proofs.bit_vec.blocks.BlocksIterator.next.Goals as goal

from_first : {X : Type 0} (i : ℕ) (xs : List X) (x : X) → i < length xs → x ≡ get_or xs i x → drop i xs ≡ x ∷ drop (i + 1) xs
from_first i xs x below is = drop_more xs i x below ∙ ap (λ y. y ∷ drop (i + 1) xs) (sym is)

past_end : {X : Type 0} (i : ℕ) (xs : List X) → (i < length xs → false ≡ true) → drop i xs ≡ []
past_end i xs none = drop_all i xs (grind (arith, none))

pub invariant_of-self : goal.invariant_of-self
invariant_of-self g c = c.self.invariant

pub returns-in_err-block-clause-steps : goal.returns-in_err-block-clause-steps
returns-in_err-block-clause-steps g c =
    let none = past_end c.self.inside.at c.self.inside.blocks.now c.in_err-block.ensures.lookup.2 in
    rw c.from_residual.ensures (record {
      item = (sym (ap (λ s. s.left) c.self.view_is) ∙ none, none);
      counted = omega (arith, c.tick.ensures, ap (λ s. s.pulls) c.self.view_is);
    })

pub returns-in_err-block-clause-goes : goal.returns-in_err-block-clause-goes
returns-in_err-block-clause-goes g c = rw c.from_residual.ensures (search rules)

pub returns-clause-steps : goal.returns-clause-steps
returns-clause-steps g c =
    let found = c.in_ok-block.ensures.lookup in
    record {
      item = sym (ap (λ s. s.left) c.self.view_is) ∙ from_first c.self.inside.at c.self.inside.blocks.now _ found.3.0 found.1;
      counted = omega (arith, c.tick.ensures, ap (λ s. s.pulls) c.self.view_is);
    }

pub returns-clause-goes : goal.returns-clause-goes
returns-clause-goes g c =
    let found = c.in_ok-block.ensures.lookup in
    let less = sym (ap (λ s. length s.left) c.self.view_is) ∙ ap length (from_first c.self.inside.at c.self.inside.blocks.now _ found.3.0 found.1) in
    record { on = λ finite. (search rules, search rules, omega (arith, less)); keeps = search rules; rests = search rules }
