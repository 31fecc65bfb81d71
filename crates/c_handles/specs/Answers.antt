-- What the answers of calls say to C.
use Rattle.std.specs.Prelude.{ℕ, ℤ, zero, suc, pos, negsuc, Bool, true, false, ◌==◌, if◌then◌else◌, Option, Some, None, Result, Ok, Err, alloc_error, ⊤}
use Rattle.std.specs.declared.alloc.AllocError.{AllocError}
use Rattle.std.specs.declared.cmp.Ordering.{Ordering, TheVariants.{Less, Equal, Greater}}
use Rattle.bit_blocks.specs.Bounds.{greatest}

-- of a call that fails for memory alone: whether it was done
abbrev pub done : Bool → Result ⊤ AllocError
done true = Ok tt
done false = Err alloc_error

-- of a call that changes a set: 1 where it did, 0 where not, -1 for memory
abbrev pub changed : ℤ → Result Bool AllocError
changed (pos zero) = Ok false
changed (pos (suc n)) = Ok true
changed (negsuc n) = Err alloc_error

-- the one number that stands for such an outcome
abbrev pub spelled : Result Bool AllocError → ℤ
spelled (Ok false) = pos 0
spelled (Ok true) = pos 1
spelled (Err fault) = negsuc 0

-- of a call that looks for a member: the greatest number stands for none
abbrev pub found : ℕ → Option ℕ
found n = if n == greatest then None else Some n

-- of a comparison: -1, 0 or 1
abbrev pub order_answer : Ordering → ℤ
order_answer Less = negsuc 0
order_answer Equal = pos 0
order_answer Greater = pos 1
