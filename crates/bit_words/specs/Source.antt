-- A walk over blocks: what is left, and how many times it was pulled.
use Rattle.std.specs.{Prelude.{◌≡◌, ℕ, ◌+◌, Bool, true, false, List, Option, IsSomeAnd}, Iterator.YieldsFirst}

pub record Source (X : Type 0) : Type 0 where
  pub left : List X
  pub pulls : ℕ

-- a call of `next` that gave r: the first of what was left, and one more pull, at the end too
pub record Pulls {X : Type 0} (s : Source X) (r : Option X) (t : Source X) : Type 0 where
  pub item : YieldsFirst (λ source. source.left) s r t
  pub counted : t.pulls ≡ s.pulls + 1

-- a call of `next_if` that gave r: where the block was wanted, a call of `next`; else a block of zeros and no pull
pub record PullsIf {X : Type 0} (is_block : X → Type 0) (number : X → ℕ) (wanted : Bool) (s : Source X) (r : Option X)
    (t : Source X) : Type 0 where
  pub pulled : wanted ≡ true → Pulls s r t
  pub zeros : wanted ≡ false → IsSomeAnd r (λ x. is_block x × (number x ≡ 0))
  pub same : wanted ≡ false → t ≡ s
