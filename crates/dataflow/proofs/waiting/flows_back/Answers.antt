use Rattle.std.proofs.Common.{◌≡◌, ℕ, suc, ◌+◌, ◌<◌, if◌then◌else◌, Bool, true, false, List, [], length, drop, map, nat_lt, sym, ap, ◌∙◌, add-one, arith, drop-cons}
use Rattle.std.{specs.List.list_any, proofs.lemmas.List.length-map}
use Rattle.dataflow.specs.{Flow.{Flow, block_at}, Worklist.flowing_back}
use Rattle.dataflow.proofs.{TakeLemmas.mapped, waiting.flows_back.Goals.{then-has_greater, else-has_greater}}
use Rattle.dataflow.proofs.waiting.flows_back.Goals as goal

-- the first of the blocks that are left is counted
one_less : (flows : List Flow) (number : ℕ) (is : Bool) → number < length flows
    → list_any (λ s. nat_lt number s) (block_at flows number).sources ≡ is
    → flowing_back number (drop number flows) ≡ (if is then 1 else 0) + flowing_back (number + 1) (drop (number + 1) flows)
one_less flows number is inside same =
    ap (flowing_back number) (drop-cons flows number (record { sources = []; generated = []; killed = [] }) inside)
    ∙ ap (λ b. (if b then 1 else 0) + flowing_back (number + 1) (drop (suc number) flows)) same
    ∙ ap (λ n. (if is then 1 else 0) + flowing_back (number + 1) (drop n flows)) (sym (add-one number))

pub loop-number-preserved : goal.loop-number-preserved
loop-number-preserved g c =
    let blocks = c.args.blocks.now in
    let flows = map g.N.Block.flow blocks in
    let number = c.loop-number.number in
    let inside : number < length blocks = omega arith in
    let long : number < length flows = omega (arith, inside, length-map blocks g.N.Block.flow) in
    let at : block_at flows number ≡ g.N.Block.flow c.index-blocks-number.result =
    mapped g.N.Block.flow blocks number c.index-blocks-number.result
    (record { sources = []; generated = []; killed = [] }) inside c.index-blocks-number.is in
    let tested : list_any (λ s. nat_lt number s) (block_at flows number).sources ≡ c.has_greater.result =
    ap (λ (f : Flow). list_any (λ s. nat_lt number s) f.sources) at
    ∙ ap (list_any (λ s. nat_lt number s)) (sym c.sources.ensures) ∙ sym c.has_greater.ensures in
    let before = c.loop-number.invariant.counted in
    let few = c.loop-number.invariant.few in
    elim c.if-has_greater.branch [
      | then-has_greater w ↦
          let less = one_less flows number true long (tested ∙ w.if-has_greater.true) in
          let more = w.flowing-is in
          record { counted = omega (arith, before, less, more); few = omega (arith, few, more) }
      | else-has_greater w ↦
          let less = one_less flows number false long (tested ∙ w.if-has_greater.false) in
          let same = w.flowing-is in
          record { counted = omega (arith, before, less, same); few = omega (arith, few, same) }
    ]
