-- What keeps the capacity of a bit vector.
use Rattle.std.proofs.Common.{◌≡◌, ℕ, ap₂, ◌∙◌}
use Rattle.bit_blocks.specs.Bits.{capacity_of}
use Rattle.bit_words.specs.Summary.{shared_capacity}

-- it stays with those of the two vectors of blocks
pub same_capacity : (w blocks summary old old_summary r : ℕ) → blocks ≡ old → summary ≡ old_summary → capacity_of w (shared_capacity w old old_summary) ≡ r
    → capacity_of w (shared_capacity w blocks summary) ≡ r
same_capacity w blocks summary old old_summary r same same_summary is = ap₂ (λ n m. capacity_of w (shared_capacity w n m)) same same_summary ∙ is
