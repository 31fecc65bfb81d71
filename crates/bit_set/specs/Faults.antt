-- Why a set does not take a number in, or is not made of bytes.
use Rattle.std.specs.Prelude.{◌≡◌, ◌≢◌, ℕ, ◌*◌, ◌<◌, ◌≤◌, ◌↔◌, IfErr, IsErrOf, IsOk, Result}
use Rattle.bit_words.specs.{Bounds.greatest, declared.bit_vec.constructors.BitsError.BitsError}
use Rattle.bit_words.specs.declared.bit_vec.constructors.BitsError.TheVariants.{Length as BitsLength, Memory as BitsMemory}
use Rattle.bit_set.specs.declared.faults.SetError.{SetError, TheVariants.{Element, Length, Memory}}

-- the fault of a set where its bit vector has this one
abbrev pub of_bits : BitsError → SetError
of_bits BitsLength = Length
of_bits (BitsMemory fault) = Memory fault

-- a set with capacity for this many values did not take the item in: for the item itself, or for a growth that
-- the item needs
abbrev pub IsInsertFault : SetError → ℕ → ℕ → Type 0
IsInsertFault Element item capacity = item ≡ greatest
IsInsertFault Length item capacity = ⊥
IsInsertFault (Memory fault) item capacity = (capacity ≤ item) × (item < greatest)

-- when a set is not made of n bytes: they are too many, or memory runs out, which none needs
pub record FailsForBytes {T : Type 0} (n : ℕ) (result : Result T SetError) : Type 0 where
  pub too_long : IsErrOf result Length ↔ (greatest < 8 * n)
  pub fits : IfErr result (λ fault. fault ≢ Element)
  pub empty : n ≡ 0 → IsOk result
