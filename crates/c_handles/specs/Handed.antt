-- What C hands over of a value, as a set: the box that it owns, or a loan for a call. A row says how memory keeps it.
use Rattle.std.specs.{Borrow.{Fml, MutBor, RattleType, ffalse, follows_so}, Box.Ownership.box_owns, Global.Global}
use Rattle.std.specs.Prelude.{◌≡◌, ℕ, zero, suc, Option, Some, None, ⊤}
use Rattle.std.specs.contracts.impls.GlobalAllocator.TheImpl.{ghosts}
use base.Fml.{Lft, Share, feq, flft, fsep}
use base.Fraction.{full_share, left}
use denote.Memory.{hidden_shr}
use denote.RawPtr.{Ptr, block_ptr, null_ptr}
use mathlib.Core.Option.{none}

-- the box of a value at the pointer; of none the pointer is null
abbrev pub owns : (X : RattleType) → Global → Ptr → Option X.Denot → Fml
owns X alloc at None = feq Ptr at null_ptr
owns X alloc at (Some value) = box_owns (ghosts.dealloc_token alloc) X at value

-- one part in two to the power of n of a lifetime's token
abbrev pub part : ℕ → Share
part zero = full_share
part (suc n) = left (part n)

-- the value at the pointer, lent for a lifetime to all who have a part of its token, and such a part
abbrev pub shares : (X : RattleType) → Lft → ℕ → Ptr → X.Denot → Fml
shares X life halvings (block_ptr b o) value = fsep (flft life (part halvings)) (hidden_shr X life value b o)
shares X life halvings null_ptr value = ffalse

-- what was lent ends as it is
abbrev pub ends_as_is : (R : RattleType) → MutBor R.Denot → Fml
ends_as_is R lent = follows_so R R lent.ghost_name none (λ _ _. ⊤) (λ left. left ≡ lent.now)

-- the address of a reference is that of the pointer
abbrev pub IsAt : ℕ × ℕ → Ptr → Type 0
IsAt address at = at ≡ block_ptr address.0 address.1

-- so are those of two references
pub record AreAt (address : ℕ × ℕ) (at : Ptr) (other_address : ℕ × ℕ) (other_at : Ptr) : Type 0 where
  pub here : IsAt address at
  pub there : IsAt other_address other_at

-- two values are what they were
pub record BothStay {X Y : Type 0} (old new : X) (other_old other_new : Y) : Type 0 where
  pub kept : new ≡ old
  pub other_kept : other_new ≡ other_old
