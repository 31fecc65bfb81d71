-- What the operators of a block do to the binary digits of its number.
-- Digit i of m is `bit_at m i`, that is `m / 2 ^ i % 2`. A block has w digits, and m, n and r are numbers of blocks.
use Rattle.std.specs.{Prelude.{◌≡◌, ℕ, ◌+◌, ◌-◌, ◌%◌, ◌^◌, ◌<◌, ◌≤◌, ◌==◌, min, max, Bool}, Int.bit_at}

-- whether digit j of m is 1
abbrev pub is_one : ℕ → ℕ → Bool
is_one m j = bit_at m j == 1

-- The width of a block: some bytes, and not a power of two in general.
pub record IsWidth (w : ℕ) : Type 0 where
  pub positive : 0 < w
  pub whole_bytes : w % 8 ≡ 0
  pub fits : w < 2 ^ 64

-- `&`: 1 where both digits are 1.
pub record IsBoth (w m n r : ℕ) : Type 0 where
  pub digit : (i : ℕ) → i < w → bit_at r i ≡ min (bit_at m i) (bit_at n i)

-- The bitwise or: 1 where a digit is 1.
pub record IsEither (w m n r : ℕ) : Type 0 where
  pub digit : (i : ℕ) → i < w → bit_at r i ≡ max (bit_at m i) (bit_at n i)

-- `^`: 1 where the digits differ.
pub record IsDifferent (w m n r : ℕ) : Type 0 where
  pub digit : (i : ℕ) → i < w → bit_at r i ≡ (bit_at m i + bit_at n i) % 2

-- `!`: 1 where the digit is 0.
pub record IsComplement (w m r : ℕ) : Type 0 where
  pub digit : (i : ℕ) → i < w → bit_at r i ≡ 1 - bit_at m i

-- A shift to higher indexes by d: what leaves at the top is dropped, and zeros come in below.
pub record IsShiftedLeft (w m d r : ℕ) : Type 0 where
  pub zeros : (i : ℕ) → i < d → bit_at r i ≡ 0
  pub moved : (i : ℕ) → i + d < w → bit_at r (i + d) ≡ bit_at m i

-- A shift to lower indexes by d: what leaves below is dropped, and zeros come in at the top.
pub record IsShiftedRight (w m d r : ℕ) : Type 0 where
  pub moved : (i : ℕ) → i + d < w → bit_at r i ≡ bit_at m (i + d)
  pub zeros : (i : ℕ) → i < w → w ≤ i + d → bit_at r i ≡ 0
