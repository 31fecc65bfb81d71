use Rattle.std.proofs.Common.{◌≡◌, ◌+◌, ◌-◌, ◌∙◌, ap, arith, get_or, get_or-drop, get_or-set_other, get_or-set_same, sym, ⊎_elim}
use Rattle.std.proofs.lemmas.{Bool.cases_lt, Grind.common_steps}
use Rattle.bit_blocks.specs.Digits.{is_one}
use Rattle.bit_set_c.proofs.ByteDigits.{digit_turned}
use Rattle.bit_set_c.proofs.bytes.turn_bytes.Goals as goal

pub loop-q-preserved : goal.loop-q-preserved
loop-q-preserved c =
    let before = c.loop-q.invariant in
    let q = c.loop-q.q in
    let to = c.loop-q.bytes in
    let byte = c.reverse_bits.result in
    record {
      room = grind (arith, common_steps);
      turned = λ p j below within.
          ⊎_elim
          (λ less. ap (λ m. is_one m (7 - j)) (get_or-set_other to q p byte 0 (λ e. omega (arith, e, less))) ∙ before.turned p j less within)
          (λ least.
          let at : p ≡ q = omega (arith, least, below) in
          let here = get_or-set_same to q byte 0 (grind (arith, common_steps)) in
          let same : q + 0 ≡ q = omega arith in
          let old : get_or to q 0 ≡ get_or c.args.bytes.now q 0 = sym (get_or-drop q to 0 0 ∙ ap (λ i. get_or to i 0) same)
          ∙ ap (λ bs. get_or bs 0 0) before.others ∙ get_or-drop q c.args.bytes.now 0 0 ∙ ap (λ i. get_or c.args.bytes.now i 0) same in
          rw at (ap (λ m. is_one m (7 - j)) (here ∙ c.reverse_bits.ensures) ∙ digit_turned (get_or to q 0) j within ∙ ap (λ m. is_one m j) old))
          (cases_lt p q);
      others = grind (arith, common_steps);
    }
