use Rattle.std.proofs.{Common.{◌≡◌, ◌-◌, ◌/◌, ◌≤◌, length, min, sym, ap, ◌∙◌, subst, arith}, lemmas.List.length-map}
use Rattle.bit_blocks.{specs.Bits.blocks_for, proofs.BitsLemmas.length-blocks_of}
use Rattle.bit_words.{specs.Nonzero.{CutsAt, walk_past}, proofs.bit_vec.BitVec.nonzero_between.Goals.After-between}
use Rattle.bit_words.proofs.bit_vec.BitVec.nonzero_between.Goals as goal

pub between-requires : goal.between-requires
between-requires g c =
    let count = sym (length-map c.storage.result.now g.B.BitBlock.number) ∙ ap length c.storage.ensures.numbers ∙ length-blocks_of g.B.BitBlock.width c.args.self.now.values in
    record { inside = omega (arith, count, c.min.ensures, c.saturating_sub-end.ensures) }

-- the block that the walk is made past
first_is : (g : _) (c : After-between g) → c.min.result ≡ min c.args.first (length c.between.result.0.blocks - 1)
first_is g c =
    let number = g.B.BitBlock.number in
    let blocks = c.between.result.0.blocks in
    let count : length c.storage.result.now ≡ length blocks = sym (length-map c.storage.result.now number) ∙ ap length (c.storage.ensures.numbers ∙ sym c.between.ensures.blocks)
    ∙ length-map blocks number in
    omega (arith, count, c.min.ensures, c.saturating_sub-end.ensures)

pub returns-clause-cut : goal.returns-clause-cut
returns-clause-cut g c =
    let w = g.B.BitBlock.width in
    let number = g.B.BitBlock.number in
    let walk = c.between.result.0 in
    subst (λ k. CutsAt w number c.args.last c.args.count (walk_past w number k walk.blocks) c.between.result.1 walk) (first_is g (goal.at.returns-clause-cut g c).After-between) c.between.ensures.cut

pub returns-clause-summary : goal.returns-clause-summary
returns-clause-summary g c =
    let w = g.B.BitBlock.width in
    subst (λ k. c.between.result.0.summary_left ≤ blocks_for w c.args.last - 1 - k / w) (first_is g (goal.at.returns-clause-summary g c).After-between) c.between.ensures.summary
