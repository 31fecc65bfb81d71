use Rattle.std.proofs.Common.{ap, length, ◌∙◌, arith}
use Rattle.bit_blocks.specs.Bits.{blocks_for, whole_blocks}
use Rattle.bit_words.proofs.CapacityLemmas.{whole_blocks-fits, whole_blocks-past}
use Rattle.set_algebra.specs.Sets.{elements, has}
use Rattle.bit_set.proofs.{CapacityLemmas.{elements-true_values, true_end-bound, whole_blocks-empty}, ChangeLemmas.changes_shrunk}
use Rattle.bit_set.proofs.set.BitSet.shrink_to_fit.Goals as goal

pub returns-clause-elements : goal.returns-clause-elements
returns-clause-elements g c = ap elements c.shrink_to_fit.ensures.values ∙ elements-true_values _ _ c.cut_zero_blocks.ensures.true_values ∙ ap (λ bits. elements bits.values) c.self.view_is

pub returns-clause-members : goal.returns-clause-members
returns-clause-members g c n = ap (λ s. has s n) (returns-clause-elements g c)

pub returns-clause-empty : goal.returns-clause-empty
returns-clause-empty g c = λ none. c.shrink_to_fit.ensures.empty (c.cut_zero_blocks.ensures.len
    ∙ whole_blocks-empty _ c.self.inside.bits.values g.met.B.BitBlock.width_law.positive (ap (λ bits. elements bits.values) c.self.view_is ∙ none))

pub returns-clause-length : goal.returns-clause-length
returns-clause-length g c = ap length c.shrink_to_fit.ensures.values ∙ c.cut_zero_blocks.ensures.len ∙ ap (λ bits. whole_blocks g.B.BitBlock.width bits.values) c.self.view_is

pub returns-clause-cut : goal.returns-clause-cut
returns-clause-cut g c fits =
    let w = g.B.BitBlock.width in
    let values = c.args.self.now.values in
    returns-clause-length g c ∙ whole_blocks-fits w _ values (ap (blocks_for w) (true_end-bound values)) (omega (arith, fits))

pub returns-clause-top : goal.returns-clause-top
returns-clause-top g c past =
    let w = g.B.BitBlock.width in
    let values = c.args.self.now.values in
    returns-clause-length g c ∙ whole_blocks-past w _ values (ap (blocks_for w) (true_end-bound values)) (omega (arith, past))

pub returns-clause-changes : goal.returns-clause-changes
returns-clause-changes g c = changes_shrunk c.shrink_to_fit.result c.args.self.now.values c.shrink_to_fit.new.self.values (returns-clause-elements g c)
