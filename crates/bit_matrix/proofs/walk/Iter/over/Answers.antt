use Rattle.std.proofs.Common.{◌≡◌, ◌-◌, ◌*◌, ◌/◌, ◌&&◌, ℕ, nat_le, map, refl, ap, ◌∙◌}
use Rattle.bit_blocks.specs.{Digits.is_one, Storage.value_at}
use Rattle.bit_set.specs.{Indexes.{indexes, values_in}, Sets.{IsAscending, has}}
use Rattle.bit_matrix.specs.Walks.{IsRowWalk}
use Rattle.bit_matrix.proofs.{WalkLemmas.{begun, none_begun}, walk.Iter.over.Goals.{After-clear_below, After-zero}}
use Rattle.bit_matrix.proofs.walk.Iter.over.Goals as goal

-- where `from` is in a block
in_block : (g : _) (c : After-clear_below g) →
    let w = g.B.BitBlock.width in
    let f = g.B.BitBlock.number in
    let index = c.args.from / w * w in
    let rest = c.split_at-2.result.1.now in
    IsRowWalk w f g.B.BitBlock.is_block rest c.clear_below.result index
    × ((n : ℕ) → has (indexes w index (f c.clear_below.result)
    (values_in w (map f rest))) n ≡ (nat_le c.args.from n && value_at w (map f c.args.blocks.now) n))
    × IsAscending (indexes w index (f c.clear_below.result) (values_in w (map f rest)))
in_block g c =
    let w = g.B.BitBlock.width in
    let f = g.B.BitBlock.number in
    begun w f g.B.BitBlock.is_block c.args.blocks.now _ c.args.from
    (c.args.from / w) _ g.met.B.BitBlock.width_law.positive refl
    (rw c.bits.ensures at c.if-first-blocks.false) c.requires.fits c.requires.each c.clear_below.ensures.of_block
    (rw c.bits.ensures at c.split_at-2.ensures.back)
    (λ j inside. (rw (c.bits.ensures, c.bits-2.ensures) at c.clear_below.ensures.digits j inside)
    ∙ ap (λ m. nat_le (c.args.from - c.args.from / w * w) j && is_one m j) (rw c.bits.ensures at c.block_at.ensures.of_number))

-- where it is past the blocks
past : (g : _) (c : After-zero g) →
    let w = g.B.BitBlock.width in
    let f = g.B.BitBlock.number in
    let rest = c.split_at.result.1.now in
    IsRowWalk w f g.B.BitBlock.is_block rest c.zero.result 0
    × ((n : ℕ) → has (indexes w 0 (f c.zero.result) (values_in w (map f rest))) n ≡ (nat_le c.args.from n && value_at w
    (map f c.args.blocks.now) n))
    × IsAscending (indexes w 0 (f c.zero.result) (values_in w (map f rest)))
past g c =
    none_begun g.B.BitBlock.width g.B.BitBlock.number g.B.BitBlock.is_block c.args.blocks.now _ c.args.from _
    g.met.B.BitBlock.width_law.positive (rw c.bits.ensures at c.if-first-blocks.true) c.zero.ensures.of_block
    c.zero.ensures.of_number c.split_at.ensures.back

pub invariant_of-result : goal.invariant_of-result
invariant_of-result g c = (past g (goal.at.invariant_of-result g c).After-zero).0

pub returns-then-first-blocks-clause-members : goal.returns-then-first-blocks-clause-members
returns-then-first-blocks-clause-members g c = (past g (goal.at.returns-then-first-blocks-clause-members g c).After-zero).1

pub returns-then-first-blocks-clause-ascends : goal.returns-then-first-blocks-clause-ascends
returns-then-first-blocks-clause-ascends g c = (past g (goal.at.returns-then-first-blocks-clause-ascends g c).After-zero).2

pub invariant_of-result-2 : goal.invariant_of-result-2
invariant_of-result-2 g c = rw (c.bits.ensures, c.bits-2.ensures) (in_block g (goal.at.invariant_of-result-2 g c).After-clear_below).0

pub returns-clause-members : goal.returns-clause-members
returns-clause-members g c = rw (c.bits.ensures, c.bits-2.ensures) (in_block g (goal.at.returns-clause-members g c).After-clear_below).1

pub returns-clause-ascends : goal.returns-clause-ascends
returns-clause-ascends g c = rw (c.bits.ensures, c.bits-2.ensures) (in_block g (goal.at.returns-clause-ascends g c).After-clear_below).2
