use Rattle.std.proofs.{Common.{◌+◌, ◌*◌, map, refl, sym, arith}, lemmas.{Bool.true≢false, List.length-map, Nat.div-mul-add}}
use Rattle.bit_blocks.{specs.{Searches.IsFirstFrom, Storage.value_at}, proofs.{ChangeLemmas.{lowest_left, put_read}, SearchLemmas.first_of_whole}}
use Rattle.bit_blocks.proofs.packed.searching.take_first_of_block.{Given.Over, Goals.After-bits}
use Rattle.bit_blocks.proofs.packed.searching.take_first_of_block.Goals as goal

found : (g : Over) (c : After-bits g)
    → IsFirstFrom (value_at g.B.BitBlock.width (map g.B.BitBlock.number c.args.blocks.now.items)) (c.args.k * g.B.BitBlock.width) (c.args.k * c.bits.result + c.take_lowest_one-index.result)
found g c =
    first_of_whole g.B.BitBlock.width (map g.B.BitBlock.number c.args.blocks.now.items) c.args.k _ c.bits.result c.take_lowest_one-index.result
    (rw c.deref.ensures.value at c.block_at-block.ensures.of_number) c.bits.ensures c.take_lowest_one-index.ensures.within c.take_lowest_one-index.ensures.lowest

pub overflow_mul-result : goal.overflow_mul-result
overflow_mul-result g c = omega (arith, c.requires.fits _ (found g (goal.at.overflow_mul-result g c).After-bits).passes)

pub overflow_add-result : goal.overflow_add-result
overflow_add-result g c = omega (arith, c.requires.fits _ (found g (goal.at.overflow_add-result g c).After-bits).passes)

pub returns-clause-first : goal.returns-clause-first
returns-clause-first g c = found g (goal.at.returns-clause-first g c).After-bits

pub returns-clause-in_its_block : goal.returns-clause-in_its_block
returns-clause-in_its_block g c = rw c.bits.ensures (div-mul-add c.args.k g.B.BitBlock.width c.take_lowest_one-index.result c.take_lowest_one-index.ensures.within)

pub returns-clause-value : goal.returns-clause-value
returns-clause-value g c =
    let taken = c.take_lowest_one-index in
    lowest_left g.B.BitBlock.width c.args.k c.bits.result taken.result _ _ _
    (map g.B.BitBlock.number c.args.blocks.now.items) _ _ g.met.B.BitBlock.width_law.positive c.bits.ensures taken.ensures.within (rw length-map (omega arith))
    (rw c.deref.ensures.value at c.block_at-block.ensures.of_number) c.put_block.ensures.numbers taken.ensures.lowest taken.ensures.cleared (λ one. absurd (true≢false (sym one))) (λ _. refl)

pub returns-clause-of_number : goal.returns-clause-of_number
returns-clause-of_number g c = put_read _ _ c.args.k _ (rw length-map (omega arith)) c.put_block.ensures.numbers
