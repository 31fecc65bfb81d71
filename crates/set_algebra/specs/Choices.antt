-- Which member a search or a choice among the members gives.
use Rattle.std.specs.Prelude.{◌≡◌, ℕ, ◌≤◌, Bool, IsTrue, List, [], ◌∷◌, ◌++◌, Option, MatchOption, length}
use Rattle.set_algebra.specs.Sets.{has, those_below}

-- m is in the set, and no member is greater
abbrev pub IsGreatest : List ℕ → ℕ → Type 0
IsGreatest s m = IsTrue (has s m) × ((x : ℕ) → IsTrue (has s x) → x ≤ m)

-- m is in the set, and no member is less
abbrev pub IsLeast : List ℕ → ℕ → Type 0
IsLeast s m = IsTrue (has s m) × ((x : ℕ) → IsTrue (has s x) → m ≤ x)

-- m is in the set and passes the test, and no member that is less does
abbrev pub IsLeastPassing : (ℕ → Bool) → List ℕ → ℕ → Type 0
IsLeastPassing p s m = IsTrue (has s m) × IsTrue (p m) × ((x : ℕ) → IsTrue (has s x) → IsTrue (p x) → m ≤ x)

-- m is in the set, and k members are below it
abbrev pub IsSelected : List ℕ → ℕ → ℕ → Type 0
IsSelected s k m = IsTrue (has s m) × (length (those_below s m) ≡ k)

-- r is the first of a list, or None where it is empty
abbrev pub IsFirstOf : List ℕ → Option ℕ → Type 0
IsFirstOf s r = MatchOption r (s ≡ []) (λ x. (rest : List ℕ) × (s ≡ x ∷ rest))

-- r is the last of a list, or None where it is empty
abbrev pub IsLastOf : List ℕ → Option ℕ → Type 0
IsLastOf s r = MatchOption r (s ≡ []) (λ x. (rest : List ℕ) × (s ≡ rest ++ x ∷ []))
