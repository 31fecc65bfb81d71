-- Walks of one kind over two block types.
use Rattle.std.specs.{Prelude.{◌≡◌, ℕ, List, length, Option, None}, Iterator.{Yields, YieldsThen}}

-- Two walks, of which contracts see an S and a T, and what is left of each. Where that is the same, they give the same.
pub record WalksAgree {S T : Type 0} (left : S → List ℕ) (next : S → Option ℕ → S → Type 0)
    (left_too : T → List ℕ) (next_too : T → Option ℕ → T → Type 0) : Type 0 where
  -- a call of `next` of each gives the same, and the same is left
  pub step : (s u : S) (t v : T) (r q : Option ℕ) → left s ≡ left_too t
      → next s r u → next_too t q v → (r ≡ q) × (left u ≡ left_too v)
  -- so do as many calls
  pub steps : (s u : S) (t v : T) (xs ys : List ℕ) → left s ≡ left_too t → length xs ≡ length ys
      → Yields next s xs u → Yields next_too t ys v → (xs ≡ ys) × (left u ≡ left_too v)
  -- so do all up to the first None
  pub rest : (s u : S) (t v : T) (xs ys : List ℕ) → left s ≡ left_too t
      → YieldsThen next s xs None u → YieldsThen next_too t ys None v → xs ≡ ys
