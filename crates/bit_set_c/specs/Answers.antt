-- What the answers of calls say to C.
use Rattle.std.specs.Prelude.{◌≡◌, ℕ, ℤ, zero, suc, pos, negsuc, Bool, true, false, not, List, Option, Some, None, Result, Ok, Err, IfOk, alloc_error, ⊤}
use Rattle.std.specs.declared.ops.Range.{Range}
use Rattle.bit_set.specs.{Order.same_sets, declared.faults.SetError.{SetError, TheVariants.{Element, Length, Memory}}}
use Rattle.c_handles.specs.Answers.{changed, spelled}
use Rattle.roaring_bit_sets.specs.declared.from_bit_set_error.FromBitSetError.{FromBitSetError}
use Rattle.roaring_bit_sets.specs.declared.from_bit_set_error.FromBitSetError.TheVariants as converting

-- of a call that puts numbers in: 1 where they are new, 0 where not, -1 for memory, -2 for a number that is no element
abbrev pub inserted : ℤ → Result Bool SetError
inserted (pos zero) = Ok false
inserted (pos (suc zero)) = Ok true
inserted (negsuc zero) = Err (Memory alloc_error)
inserted (negsuc (suc zero)) = Err Element
inserted answer = Err Length

-- of a call that moves the members: 1 where it did, -1 for memory, -2 where one would be no element
abbrev pub moved : ℤ → Result ⊤ SetError
moved (pos (suc zero)) = Ok tt
moved (negsuc zero) = Err (Memory alloc_error)
moved (negsuc (suc zero)) = Err Element
moved answer = Err Length

-- of a call that makes a Roaring bitmap: 1 where it did, -1 for memory, -2 for a member that is too great
abbrev pub converted : ℤ → Result ⊤ FromBitSetError
converted (pos n) = Ok tt
converted (negsuc zero) = Err converting.Memory
converted (negsuc (suc n)) = Err converting.TooGreat

abbrev pub spelled_conversion : Result ⊤ FromBitSetError → ℤ
spelled_conversion (Ok done) = pos 1
spelled_conversion (Err converting.Memory) = negsuc 0
spelled_conversion (Err converting.TooGreat) = negsuc 1

-- The answer of a call that may change a set says whether the members changed, which were `old` and are `new`, and is the
-- one number that says so.
pub record TellsChange (answer : ℤ) (old new : List ℕ) : Type 0 where
  pub told : IfOk (changed answer) (λ it. it ≡ not (same_sets old new))
  pub unchanged : IfOk (changed answer) (λ it. it ≡ false → new ≡ old)
  pub exact : answer ≡ spelled (changed answer)

-- of a call that looks for a number, or for a range, and puts it out: what it found
abbrev pub given : Bool → ℕ → Option ℕ
given true n = Some n
given false n = None

abbrev pub given_range : Bool → ℕ → ℕ → Option (Range ℕ)
given_range true start end = Some (record { start = start; end = end })
given_range false start end = None
