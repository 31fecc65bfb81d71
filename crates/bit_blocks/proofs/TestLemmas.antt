-- What a test of an index says, alone and beside a second one.
use Rattle.std.proofs.{Common.{◌≡◌, ℕ, ◌<◌, ◌≤◌, Bool, true, false, ◌&&◌, nat_lt, nat_le, ap, arith}, lemmas.Bool.Decides.nat_tests}

pub below_true : (len i : ℕ) → i < len → nat_lt i len ≡ true
below_true len i h = grind (arith, nat_tests)

pub above_false : (len i : ℕ) → len ≤ i → nat_lt i len ≡ false
above_false len i h = grind (arith, nat_tests)

pub from_true : (start i : ℕ) → start ≤ i → nat_le start i ≡ true
from_true start i h = grind (arith, nat_tests)

pub before_false : (start i : ℕ) → i < start → nat_le start i ≡ false
before_false start i h = grind (arith, nat_tests)

pub below_and : (len i : ℕ) (b : Bool) → i < len → (nat_lt i len && b) ≡ b
below_and len i b h = ap (λ t. t && b) (below_true len i h)

pub above_and : (len i : ℕ) (b : Bool) → len ≤ i → (nat_lt i len && b) ≡ false
above_and len i b h = ap (λ t. t && b) (above_false len i h)

pub from_and : (start i : ℕ) (b : Bool) → start ≤ i → (nat_le start i && b) ≡ b
from_and start i b h = ap (λ t. t && b) (from_true start i h)

pub before_and : (start i : ℕ) (b : Bool) → i < start → (nat_le start i && b) ≡ false
before_and start i b h = ap (λ t. t && b) (before_false start i h)
