use Rattle.std.proofs.{Common.{◌≡◌, ◌*◌, ◌^◌, ap₂, ◌∙◌, inl, inr, arith}, lemmas.Bool.{cases_lt}}
use Rattle.bit_matrix.proofs.table.blocks_of_rows.Goals as goal

pub returns-in_err-_bits : goal.returns-in_err-_bits
returns-in_err-_bits g c =
    let bits = c.args.rows * (c.args.stride * g.B.BitBlock.width) in
    let same : c.in_ok-count.count * c.bits.result ≡ bits = ap₂ ◌*◌ c.in_ok-count.ensures.1 c.bits.ensures ∙ (let e : c.args.rows * c.args.stride * g.B.BitBlock.width ≡ bits = omega arith in e) in
    rw c.from_residual-in_err-_bits.ensures (elim (cases_lt bits (2 ^ 64)) [
      | inl small ↦ absurd (c.in_err-_bits.ensures (omega (arith, same, small)))
      | inr past ↦ omega (arith, past)
    ])
