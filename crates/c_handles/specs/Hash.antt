-- The hash of a set: of its members alone, in ascending order.
use Rattle.std.specs.Prelude.{ℕ, ◌+◌, ◌*◌, ◌/◌, ◌%◌, ◌^◌, List, [], ◌∷◌, bit_xor}

-- the state after these members: each is added, and the sum is multiplied by 2 ^ 64 over the golden ratio
abbrev pub state_after : ℕ → List ℕ → ℕ
state_after state [] = state
state_after state (m ∷ ms) = state_after ((state + m) % 2 ^ 64 * 11400714819323198485 % 2 ^ 64) ms

-- the higher half of the state goes into the lower too
abbrev pub hash_of : List ℕ → ℕ
hash_of s = let state = state_after 1 s in bit_xor state (state / 2 ^ 32)
