use Rattle.std.proofs.Common.{◌<◌, false, get_or, length, map, sym, None, Some, arith}
use Rattle.bit_blocks.{specs.Storage.value_at, proofs.{CompareLemmas.value_in_view, SearchLemmas.{finds_from_same, value_fits}}}
use Rattle.bit_words.{specs.Summary.short_count, proofs.StartLemmas.{first_chunk, no_chunk}}
use Rattle.bit_words.proofs.bit_vec.BitVec.first_one.{Given.Over, Goals.Else-is_short}
use Rattle.bit_words.proofs.bit_vec.BitVec.first_one.Goals as goal

-- where the list is not short a summary is stored
many : (g : Over) (c : Else-is_short g) → short_count g.B.BitBlock.width < length c.self.inside.blocks.items
many g c = let long = c.is_short.ensures.long c.if-is_short.false in omega (arith, long)

pub first_one-requires : goal.first_one-requires
first_one-requires g c = rw c.deref.ensures.value (record { each = c.self.invariant.packed.each; fits = value_fits _ _ _ c.self.invariant.packed.tail c.self.invariant.packed.fits })

pub returns-then-is_short : goal.returns-then-is_short
returns-then-is_short g c =
    let ms = map g.B.BitBlock.number c.self.inside.blocks.items in
    finds_from_same (value_at g.B.BitBlock.width ms) (λ i. get_or c.args.self.now.values i false) 0 _ (λ i. sym (value_in_view _ _ _ ms _ c.self.view_is c.self.invariant.packed.tail i))
    (rw c.deref.ensures.value at c.first_one.ensures)

pub returns-in_err-chunk : goal.returns-in_err-chunk
returns-in_err-chunk g c =
    let w = g.B.BitBlock.width in
    let long = many g (goal.at.returns-in_err-chunk g c).Else-is_short in
    let ms = map g.B.BitBlock.number c.self.inside.blocks.items in
    let none = no_chunk w g.B.BitBlock.number g.B.BitBlock.is_block c.self.inside.blocks.items c.self.inside.summary.items g.met.B.BitBlock.width_law.positive
    (c.self.invariant.summary.long long) c.self.inside.search_start (λ x is. (g.met.B.BitBlock.number_law x is).0) c.self.invariant.packed.each (c.self.invariant.start long)
    (rw c.deref-2.ensures.value at c.in_err-chunk.ensures) in
    rw c.from_residual.ensures
    (finds_from_same (value_at w ms) (λ i. get_or c.args.self.now.values i false) 0 None (λ i. sym (value_in_view _ _ _ ms _ c.self.view_is c.self.invariant.packed.tail i)) (λ i _. none i))

pub first_of_chunk-requires-clause-first : goal.first_of_chunk-requires-clause-first
first_of_chunk-requires-clause-first g c =
    let long = many g (goal.at.first_of_chunk-requires-clause-first g c).Else-is_short in
    rw c.deref-4.ensures.value
    (first_chunk g.B.BitBlock.width g.B.BitBlock.number g.B.BitBlock.is_block c.self.inside.blocks.items
    c.self.inside.summary.items g.met.B.BitBlock.width_law.positive
    (c.self.invariant.summary.long long) c.self.inside.search_start _
    (λ x is. (g.met.B.BitBlock.number_law x is).0) c.self.invariant.packed.each (c.self.invariant.start long)
    (rw c.deref-2.ensures.value at c.in_ok-chunk.ensures))

pub returns : goal.returns
returns g c =
    let ms = map g.B.BitBlock.number c.self.inside.blocks.items in
    finds_from_same (value_at g.B.BitBlock.width ms) (λ i. get_or c.args.self.now.values i false) 0 (Some c.first_of_chunk.result)
    (λ i. sym (value_in_view _ _ _ ms _ c.self.view_is c.self.invariant.packed.tail i)) (rw c.deref-3.ensures.value at c.first_of_chunk.ensures)
