use Rattle.std.proofs.Common.{◌≡◌, ◌+◌, ◌*◌, ◌%◌, ◌≤◌, ◌∙◌, ap, arith, get_or-set_other, get_or-set_same, ⊎_elim}
use Rattle.std.proofs.lemmas.{Bool.cases_lt, Grind.common_steps}
use Rattle.bit_blocks.specs.Digits.{is_one}
use Rattle.bit_set_c.{proofs.ByteDigits.digit_of_byte, specs.Block.width}
use Rattle.bit_set_c.proofs.bytes.put_bytes.Goals as goal

pub loop-p-preserved : goal.loop-p-preserved
loop-p-preserved c =
    let before = c.loop-p.invariant in
    let at = c.args.at in
    let p = c.loop-p.p in
    let to = c.loop-p.bytes in
    let byte = c.shift_right.result % 256 in
    record {
      room = grind (arith, common_steps);
      digits = λ q j below within.
          ⊎_elim
          (λ less. ap (λ m. is_one m j) (get_or-set_other to (at + p) (at + q) byte 0 (λ e. omega (arith, e, less))) ∙ before.digits q j less within)
          (λ (least : p ≤ q).
          let here : q ≡ p = omega (arith, least, below) in
          rw here (ap (λ m. is_one m j) (get_or-set_same to (at + p) byte 0 (grind (arith, common_steps)))
          ∙ digit_of_byte width _ (8 * (c.args.start + p)) _ j c.shift_right.ensures.of_digits within (omega (arith, c.requires.within))))
          (cases_lt q p);
      before = λ k below. get_or-set_other to (at + p) k byte 0 (λ e. omega (arith, e, below)) ∙ before.before k below;
      others = grind (arith, common_steps);
    }
