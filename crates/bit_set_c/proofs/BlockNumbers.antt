-- A block is its own number, and its digits are members.
use Rattle.std.proofs.Common.{◌≡◌, ℕ, ◌+◌, ◌*◌, ◌<◌, ◌∙◌, Bool, List, ap, drop, get_or, get_or-drop, map, sym}
use Rattle.std.proofs.lemmas.List.{map-id}
use Rattle.bit_blocks.specs.{Bits.blocks_of, Digits.is_one}
use Rattle.bit_set.{proofs.MismatchLemmas.has-index, specs.Sets.{elements, has}}
use Rattle.bit_set_c.specs.Block.{width}

pub numbers_are_blocks : (blocks : List ℕ) → map (λ (block : ℕ). block) blocks ≡ blocks
numbers_are_blocks = map-id

-- a digit of a block past `from` says whether a number is a member
pub digit_is_member : (bs : List ℕ) (values : List Bool) (from k j : ℕ) → bs ≡ drop from (blocks_of width values) → j < width → is_one (get_or bs k 0) j ≡ has (elements values) ((from + k) * width + j)
digit_is_member bs values from k j is within = ap (λ ms. is_one (get_or ms k 0) j) is ∙ ap (λ m. is_one m j) (get_or-drop from (blocks_of width values) k 0) ∙ sym (has-index width (from + k) j values within)
