-- Bytes, the lowest binary digit of each first, are blocks of eight values.
use Rattle.std.proofs.Common.{◌≡◌, ℕ, ◌*◌, ◌^◌, ◌<◌, List, false, length, get_or, sym, ap, ◌∙◌, arith}
use Rattle.bit_blocks.specs.{Bits.{Bits, blocks_for, blocks_of}, Storage.{value_at, values_of, IsZeroFrom}}
use Rattle.bit_blocks.proofs.BitsLemmas.{blocks_for-enough, blocks_for-least}
use Rattle.bit_blocks.proofs.StorageLemmas.{blocks-values_of, get_or-values_of, length-values_of, value_at-past, values_of-same}

-- those that a list is written to
pub bytes_are_blocks : (w len r : ℕ) (ms bs : List ℕ) (v : Bits) → record { values = values_of w ms len; capacity = r } ≡ v → IsZeroFrom w ms len
    → length bs ≡ blocks_for 8 len → ((k : ℕ) → get_or bs k 0 < 2 ^ 8) → ((i : ℕ) → value_at 8 bs i ≡ value_at w ms i) → bs ≡ blocks_of 8 v.values
bytes_are_blocks w len r ms bs v e tail long small same =
    blocks-values_of 8 bs len (omega arith) long small (record { zero_tail = λ i past. same i ∙ tail.zero_tail i past })
    ∙ ap (blocks_of 8) (values_of-same 8 bs len (values_of w ms len) (length-values_of w ms len) (λ i below. same i ∙ sym (get_or-values_of w ms len i false below))
    ∙ ap (λ bits. bits.values) e)

-- those that a list is made of
pub blocks_of_bytes : (w len : ℕ) (ms bytes : List ℕ) → len ≡ 8 * length bytes → ((k : ℕ) → get_or bytes k 0 < 2 ^ 8)
    → ((i : ℕ) → value_at w ms i ≡ value_at 8 bytes i) → blocks_of 8 (values_of w ms len) ≡ bytes
blocks_of_bytes w len ms bytes long small same =
    let enough = blocks_for-enough 8 len (omega arith) in
    let least = blocks_for-least 8 len (length bytes) (omega arith) (omega (arith, long)) in
    ap (blocks_of 8) (values_of-same w ms len (values_of 8 bytes len) (length-values_of 8 bytes len) (λ i below. same i ∙ sym (get_or-values_of 8 bytes len i false below)))
    ∙ sym (blocks-values_of 8 bytes len (omega arith) (omega (arith, long, enough, least)) small (record { zero_tail = λ i past. value_at-past 8 bytes i (omega (arith, long, past)) }))
