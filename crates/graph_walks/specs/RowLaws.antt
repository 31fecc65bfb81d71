-- Proved, not believed: what a walk over a row of successors gives.
use Rattle.std.specs.{Prelude.{◌≡◌, ℕ, List, [], ◌∷◌, length, Option, Some, None}, declared.iter.Copied.Copied}
use Rattle.std.specs.{Iterator.YieldsFirst, Iterator.Adapters.{copied_source, copied_steps}, declared.slice.Iter.Iter}
use Rattle.std.{specs.{Option.option_copied, Slice.Iter.{iter_rest, iter_steps}}, proofs.Common.{refl, ap, ◌∙◌}}
use denote.Ref.{Bor}

abbrev pub copied_rest : Copied (Iter ℕ) → List ℕ
copied_rest walk = iter_rest (copied_source walk)

pub none_left : (xs : List ℕ) → length xs ≡ 0 → xs ≡ []
none_left [] h = refl
none_left (x ∷ xs) h = cc

first_of_copies : (s t : Copied (Iter ℕ)) (item : Option (Bor ℕ)) → iter_steps (copied_source s) item (copied_source t)
    → YieldsFirst copied_rest s (option_copied item) t
first_of_copies s t None h = (none_left _ h.0, ap iter_rest h.1 ∙ none_left _ h.0)
first_of_copies s t (Some x) h = h

pub copies_in_order : (s t : Copied (Iter ℕ)) (item : Option ℕ) → copied_steps iter_steps s item t
    → YieldsFirst copied_rest s item t
copies_in_order s t item h = rw h.2 (first_of_copies s t h.0 h.1)
