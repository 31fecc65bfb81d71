use Rattle.std.proofs.Common.{◌≡◌, ℕ, ◌+◌, ◌-◌, ◌*◌, ◌/◌, ◌%◌, ◌^◌, bit_and, ◌∙◌}
use Rattle.std.proofs.lemmas.Nat.{and_mask, mod-pow-add, mod_low, mod_below, pow_pos}
use Rattle.bit_blocks.specs.DigitLaws.{shifted_left}
use Rattle.block24.proofs.Block24BitBlock.shift_left.Goals as goal

-- a mask of the low k digits, past a wider limit
masked : (n j k : ℕ) → bit_and (n % 2 ^ (j + k)) (2 ^ k - 1) ≡ n % 2 ^ k
masked n j k =
    and_mask (n % 2 ^ (j + k)) k
    ∙ rw (mod-pow-add n j k) (mod_low (n / 2 ^ k % 2 ^ j) k (n % 2 ^ k) (mod_below n (2 ^ k) (pow_pos k)))

pub returns-clause-of_digits : goal.returns-clause-of_digits
returns-clause-of_digits c =
    (shifted_left 24 c.args.self.0 c.args.distance _ c.requires.within (masked (c.args.self.0 * 2 ^ c.args.distance) 8 24)).1
