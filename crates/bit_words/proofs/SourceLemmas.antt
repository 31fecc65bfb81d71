-- A whole walk over blocks.
use Rattle.std.{proofs.Common.{◌≡◌, ◌+◌, List, [], ◌∷◌, length, None, sym, ap, ◌∙◌, arith}, specs.Iterator.YieldsThen}
use Rattle.bit_words.specs.Source.{Source, Pulls}

pub walked : {X : Type 0} (s t : Source X) (xs : List X) → YieldsThen Pulls s xs None t → (xs ≡ s.left) × (t.pulls ≡ s.pulls + length xs + 1)
walked s t [] h =
    let at = ap (λ x. x.pulls) h.1 in
    (sym (ap (λ x. x.left) h.1 ∙ h.2.item.0), omega (arith, h.2.counted))
walked s t (x ∷ xs) h =
    let rest = walked h.1.0 t xs (h.0, h.1.2, h.2) in
    (ap (λ ys. x ∷ ys) rest.0 ∙ sym h.1.1.item, omega (arith, h.1.1.counted, rest.1))
