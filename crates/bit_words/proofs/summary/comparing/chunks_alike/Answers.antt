use Rattle.std.proofs.Common.{◌≡◌, ℕ, ◌+◌, ◌-◌, ◌<◌, ◌≤◌, ◌∙◌, All, ap, drop, get_or, length, map, take, sym, arith}
use Rattle.std.proofs.lemmas.List.{Elements.{All-same, All-drop, All-take}}
use Rattle.bit_words.proofs.ComparedLemmas.{first_within, part_read, same_below}
use Rattle.bit_words.proofs.summary.comparing.chunks_alike.{Given.Over, Goals.{After-part_of-own, After-part_of-other, After-unwrap_or}}
use Rattle.bit_words.proofs.summary.comparing.chunks_alike.Goals as goal

own_blocks : (g : Over) (c : After-part_of-own g) → All g.B.BitBlock.is_block c.part_of-own.result.now
own_blocks g c = let is_block = g.B.BitBlock.is_block in All-same is_block _ _ c.part_of-own.ensures (All-take is_block _ _ (All-drop is_block _ _ c.requires.summary))

other_blocks : (g : Over) (c : After-part_of-other g) → All g.B.BitBlock.is_block c.part_of-other.result.now
other_blocks g c = let is_block = g.B.BitBlock.is_block in All-same is_block _ _ c.part_of-other.ensures (All-take is_block _ _ (All-drop is_block _ _ c.requires.other_summary))

pub is_full-requires : goal.is_full-requires
is_full-requires g c = record { each = own_blocks g (goal.at.is_full-requires g c).After-part_of-own }

pub first_mismatching_block-requires : goal.first_mismatching_block-requires
first_mismatching_block-requires g c =
    let at = goal.at.first_mismatching_block-requires g c in
    record { left = own_blocks g at.After-part_of-own; right = other_blocks g at.After-part_of-other }

-- it lies among the chunks
within : (g : Over) (c : After-unwrap_or g) → c.unwrap_or.result ≤ c.args.end - c.args.first
within g c =
    first_within g.B.BitBlock.number c.first_mismatching_block.result (c.args.end - c.args.first) c.unwrap_or.result _ _ _ _ c.part_of-own.ensures c.part_of-other.ensures c.unwrap_or.ensures
    c.first_mismatching_block.ensures

pub overflow_add-result : goal.overflow_add-result
overflow_add-result g c = omega (arith, within g (goal.at.overflow_add-result g c).After-unwrap_or, c.requires.forward)

pub returns-clause-within : goal.returns-clause-within
returns-clause-within g c = omega (arith, within g (goal.at.returns-clause-within g c).After-unwrap_or, c.requires.forward)

pub returns-clause-alike : goal.returns-clause-alike
returns-clause-alike g c = λ q reached below.
    let number = g.B.BitBlock.number in
    let first = c.args.first in
    let count = c.args.end - first in
    let at = q - first in
    let few = within g (goal.at.returns-clause-alike g c).After-unwrap_or in
    let inside : at < c.unwrap_or.result = omega (arith, reached, below) in
    let place : first + at ≡ q = omega (arith, reached) in
    let near : at < count = omega (arith, inside, few) in
    rw place at (
    sym (ap (λ ys. get_or (map number ys) at 0) c.part_of-own.ensures ∙ part_read number g.B.BitBlock.is_block first count at c.args.summary.now near)
    ∙ same_below c.first_mismatching_block.result count c.unwrap_or.result _ _ c.unwrap_or.ensures c.first_mismatching_block.ensures at inside
    ∙ ap (λ ys. get_or (map number ys) at 0) c.part_of-other.ensures
    ∙ part_read number g.B.BitBlock.is_block first count at c.args.other_summary.now near
    )
