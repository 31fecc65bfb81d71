use Rattle.std.proofs.Common.{◌≡◌, ◌+◌, ◌*◌, ◌-◌, ◌/◌, ◌%◌, ◌<◌, ◌≤◌, ◌∙◌, ap, arith, ⊎_elim}
use Rattle.std.proofs.lemmas.{Bool.cases_lt, Grind.common_steps}
use Rattle.bit_blocks.specs.Digits.{is_one}
use Rattle.bit_set_c.{proofs.ByteDigits.same_past, specs.Block.width}
use Rattle.bit_set_c.proofs.bytes.put_whole.Goals as goal

pub loop-k-preserved : goal.loop-k-preserved
loop-k-preserved c =
    let before = c.loop-k.invariant in
    let step = width / 8 in
    let at = c.args.at in
    let k = c.loop-k.k in
    let blocks = c.args.blocks.now in
    record {
      room = grind (arith, common_steps);
      digits = λ p j below within.
          ⊎_elim
          (λ (less : p < step * k). ap (λ m. is_one m j) (c.put_bytes.ensures.before (at + p) (omega (arith, less))) ∙ before.digits p j less within)
          (λ (reached : step * k ≤ p).
          let block : p / step ≡ k = omega (arith, reached, below) in
          let byte : p % step ≡ 0 + (p - step * k) = omega (arith, reached, below) in
          let place : at + step * k + (p - step * k) ≡ at + p = omega (arith, reached) in
          rw (block, byte) (rw place at (c.put_bytes.ensures.digits (p - step * k) j (omega (arith, reached, below)) within)))
          (cases_lt p (step * k));
      before = λ n below. c.put_bytes.ensures.before n (omega (arith, below)) ∙ before.before n below;
      others =
          let next : at + step * k + step ≡ at + step * (k + 1) = omega arith in
          rw next at c.put_bytes.ensures.others ∙ same_past c.loop-k.bytes c.args.bytes.now (at + step * k) (at + step * (k + 1)) (omega arith) before.others;
    }
