-- What is held where there is a value.
use Rattle.std.{specs.Prelude.{Option, Some, None, IsSome}, proofs.Common.{◌≡◌, refl}}
use borrow.Author.Tests.{clash}

abbrev pub value_of : {D : Type 0} (o : Option D) → IsSome o → D
value_of None s = absurd (clash s)
value_of (Some v) s = v

pub is_value : {D : Type 0} (o : Option D) (s : IsSome o) → o ≡ Some (value_of o s)
is_value None s = absurd (clash s)
is_value (Some v) s = refl
