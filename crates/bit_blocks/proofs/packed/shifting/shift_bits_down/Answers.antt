use Rattle.std.proofs.{Common.{ℕ, ◌<◌, drop, length, map, get_or, arith}, lemmas.List.{length-map, take_at}}
use Rattle.bit_blocks.{specs.Shifts.IsMovedDown, proofs.ShiftLemmas.{down_packed, value_down}}
use Rattle.bit_blocks.proofs.packed.shifting.shift_bits_down.Goals as goal

pub returns-clause-values : goal.returns-clause-values
returns-clause-values g c =
    let w = g.B.BitBlock.width in
    let number = g.B.BitBlock.number in
    let new = c.move_down.new.blocks in
    let old = c.args.blocks.now in
    let count = length new in
    let moved : (k : ℕ) → k < count → IsMovedDown w (map number old.items) c.args.distance k (get_or (map number new) k 0) =
    rw c.as_mut_slice.ensures.value at (λ (k : ℕ) (within : k < count). c.move_down.ensures.moved k
    (omega (arith, within, c.move_down.ensures.written.len))) in
    rw (take_at new (drop (length new) old.items) old.len (omega arith))
    (λ i. value_down w (map number old.items) (map number new) count c.args.distance i g.met.B.BitBlock.width_law.positive (rw length-map (omega arith)) (rw length-map (omega arith)) moved)

pub returns-clause-packed : goal.returns-clause-packed
returns-clause-packed g c =
    let new = c.move_down.new.blocks in
    let old = c.args.blocks.now in
    let values = returns-clause-values g c in
    rw (take_at new (drop (length new) old.items) old.len (omega arith))
    (down_packed g.B.BitBlock.width c.args.len c.args.distance g.B.BitBlock.number g.B.BitBlock.is_block old.items new
    c.requires c.move_down.ensures.written.each (omega arith)
    (rw (take_at new (drop (length new) old.items) old.len (omega arith)) at values))
