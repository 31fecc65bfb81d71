-- What holds of the outcome of a call, or of what it made, holds of what C gets.
use Rattle.std.proofs.Common.{◌≡◌, Bool, subst, sym}
use Rattle.std.specs.{Prelude.{IfSome, OnOk, Option, Some, None, Result, Ok, Err, ⊤}, Result.is_ok}
use Rattle.c_handles.specs.Answers.{done}

pub on_done : {E : Type 0} (r : Result ⊤ E) (b : Bool) (P : Type 0) → b ≡ is_ok r → OnOk r P → OnOk (done b) P
on_done (Ok u) b P is holds = subst (λ (b : Bool). OnOk (done b) P) (sym is) holds
on_done (Err e) b P is holds = subst (λ (b : Bool). OnOk (done b) P) (sym is) tt

pub if_held : {D : Type 0} (P : D → Type 0) (held : Option D) (value : D) → IfSome held (λ h. h ≡ value) → P value → IfSome held P
if_held P None value is holds = tt
if_held P (Some h) value is holds = subst P (sym is) holds
