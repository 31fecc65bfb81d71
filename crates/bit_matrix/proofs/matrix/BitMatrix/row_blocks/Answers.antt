use Rattle.std.proofs.Common.{◌≡◌, ◌*◌, ◌∙◌, drop, take, sym, ap, arith}
use Rattle.bit_blocks.specs.Bits.{blocks_for}
use Rattle.bit_matrix.proofs.{SeenLemmas.{enough, row_bits_fit, row_within, seen_columns, seen_matrix, slice_bits, slice_length}, matrix.BitMatrix.row_blocks.Goals.{After-row_of_blocks}}
use Rattle.bit_matrix.proofs.matrix.BitMatrix.row_blocks.Goals as goal

pub row_of_blocks-requires : goal.row_of_blocks-requires
row_of_blocks-requires g c = record { within = rw c.deref.ensures.value (row_within g.met.B.BitBlock.width_law.positive c.self.invariant c.self.view_is c.args.row c.requires) }

slice : (g : _) (c : After-row_of_blocks g) → c.row_of_blocks.result.now ≡ take c.self.inside.stride (drop (c.args.row * c.self.inside.stride) c.self.inside.blocks.items)
slice g c = rw c.deref.ensures.value at c.row_of_blocks.ensures

pub returns-clause-bits : goal.returns-clause-bits
returns-clause-bits g c = slice_bits g.met.B.BitBlock.width_law.positive c.self.invariant c.self.view_is c.args.row c.requires _ (slice g (goal.at.returns-clause-bits g c).After-row_of_blocks)

pub returns-clause-enough : goal.returns-clause-enough
returns-clause-enough g c =
    let pos = g.met.B.BitBlock.width_law.positive in
    let long = ap (λ n. n * g.B.BitBlock.width) (slice_length pos c.self.invariant c.self.view_is c.args.row c.requires _ (slice g (goal.at.returns-clause-enough g c).After-row_of_blocks)) in
    omega (arith, long, enough pos c.self.invariant c.self.view_is, seen_columns pos c.self.invariant c.self.view_is)

pub returns-clause-fits : goal.returns-clause-fits
returns-clause-fits g c =
    let pos = g.met.B.BitBlock.width_law.positive in
    let long = ap (λ n. n * g.B.BitBlock.width) (slice_length pos c.self.invariant c.self.view_is c.args.row c.requires _ (slice g (goal.at.returns-clause-fits g c).After-row_of_blocks)) in
    omega (arith, long, row_bits_fit pos c.self.invariant c.self.view_is c.args.row c.requires, c.self.invariant.fits)

pub returns-clause-matrix : goal.returns-clause-matrix
returns-clause-matrix g c = seen_matrix g.met.B.BitBlock.width_law.positive c.self.invariant c.self.view_is

pub returns-clause-len : goal.returns-clause-len
returns-clause-len g c =
    let pos = g.met.B.BitBlock.width_law.positive in
    slice_length pos c.self.invariant c.self.view_is c.args.row c.requires _
    (slice g (goal.at.returns-clause-len g c).After-row_of_blocks) ∙ c.self.invariant.in_row
    ∙ ap (blocks_for g.B.BitBlock.width) (sym (seen_columns pos c.self.invariant c.self.view_is))
