-- The ones of the blocks of a bit vector can be counted.
use Rattle.std.proofs.{Common.{◌≡◌, ℕ, ◌+◌, ◌^◌, ◌<◌, map, drop, count_ones, ap, arith}, lemmas.List.Sums.{count_by-le-length, sum_by-take-drop}}
use Rattle.bit_blocks.{specs.Bits.{Bits, IsWithinCapacity, blocks_of}, proofs.CountLemmas.ones_in-values}
use Rattle.bit_words.{specs.Nonzero.{Nonzeros, StartsPast, ones_left}, proofs.PendingOnes.ones_nonzero}

-- those that a walk has left at its making
pub left_fits : {X : Type 0} (w : ℕ) (number : X → ℕ) (is_block : X → Type 0) (k : ℕ) (bits : Bits) (it : Nonzeros X) → 0 < w → map number it.blocks ≡ blocks_of w bits.values → StartsPast w number k it → IsWithinCapacity bits → ones_left number it.left < 2 ^ 64
left_fits w number is_block k bits it pos blocks start fits =
    let left = ap (λ walk. ones_left number walk.left) start in
    omega (arith, left, ones_nonzero w number is_block (k + 1) (drop (k + 1) it.blocks), sum_by-take-drop (λ x. count_ones (number x)) it.blocks (k + 1), ones_in-values number w it.blocks bits.values pos blocks, count_by-le-length (λ value. value) bits.values, fits.holds_values, fits.fits)
