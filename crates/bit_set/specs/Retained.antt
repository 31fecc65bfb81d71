-- How far `retain` has come. No public clause cites this.
use Rattle.std.specs.{Prelude.{◌≡◌, ℕ, Bool, List, [], ◌++◌, length}, List.{items_where_true, Retain.ReturnsInTurn}}
use Rattle.bit_set.specs.Indexes.{indexes}

-- the indexes of the ones of block m of w digits, the first of which has the index p
abbrev pub ones : ℕ → ℕ → ℕ → List ℕ
ones w p m = indexes w p m []

-- A test that answers by R, and was p and is q, was asked of the first numbers of `old`, all but `rest`; `new` has those that
-- it kept, and `rest`.
pub record HasTested {P : Type 0} (R : P → ℕ → Bool → P → Type 0) (p : P) (old : List ℕ) (q : P) (new rest : List ℕ)
    : Type 0 where
  pub tested : List ℕ
  pub answers : List Bool
  pub ran : ReturnsInTurn R p answers tested q
  pub long : length answers ≡ length tested
  pub whole : old ≡ tested ++ rest
  pub kept : new ≡ items_where_true answers tested ++ rest
