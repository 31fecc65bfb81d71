use Rattle.std.proofs.Common.{◌≡◌, ◌∙◌, ap, arith, get_or, get_or-set_other, get_or-set_same, ⊎_elim}
use Rattle.std.proofs.lemmas.{Bool.cases_lt, Grind.common_steps, List.map-id}
use Rattle.bit_blocks.specs.Digits.{is_one}
use Rattle.bit_set_c.proofs.merges.merge_front.Goals as goal

pub loop-k-preserved : goal.loop-k-preserved
loop-k-preserved c =
    let before = c.loop-k.invariant in
    let k = c.loop-k.k in
    let to = c.loop-k.to in
    let merged = c.of_blocks.result in
    let left = c.block_or_zero.ensures.of_number ∙ ap (λ ms. get_or ms k 0) (map-id c.args.a.now) in
    let right = c.block_or_zero-in-loop-k.ensures.of_number ∙ ap (λ ms. get_or ms k 0) (map-id c.args.b.now) in
    record {
      room = grind (arith, common_steps);
      digits = λ i j below within.
          ⊎_elim
          (λ less. ap (λ m. is_one m j) (get_or-set_other to k i merged 0 (λ e. omega (arith, e, less))) ∙ before.digits i j less within)
          (λ least.
          let at : i ≡ k = omega (arith, least, below) in
          let here = get_or-set_same to k merged 0 (grind (arith, common_steps)) in
          let digit = c.of_blocks.ensures.digits j within in
          cc (at, here, digit, left, right))
          (cases_lt i k);
      others = grind (arith, common_steps);
    }
