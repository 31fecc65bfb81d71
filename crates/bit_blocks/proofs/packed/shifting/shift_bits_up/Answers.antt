use Rattle.std.proofs.{Common.{ℕ, ◌<◌, drop, length, map, get_or, arith}, lemmas.List.take_at}
use Rattle.bit_blocks.{specs.{Bits.blocks_for, Shifts.IsMovedUp}, proofs.ShiftLemmas.value_up}
use Rattle.bit_blocks.proofs.packed.shifting.shift_bits_up.Goals as goal

pub returns-clause-values : goal.returns-clause-values
returns-clause-values g c =
    let w = g.B.BitBlock.width in
    let number = g.B.BitBlock.number in
    let new = c.move_up.new.blocks in
    let old = c.args.blocks.now in
    let moved : (k : ℕ) → k < blocks_for w c.args.len → IsMovedUp w (map number old.items) c.args.distance k
    (get_or (map number new) k 0) = rw c.as_mut_slice.ensures.value at (λ (k : ℕ)
    (within : k < blocks_for w c.args.len). c.move_up.ensures.moved k
    (omega (arith, within, c.as_mut_slice.ensures.len, c.requires.count))) in
    λ i.
    value_up w (map number old.items) (map number new) (map number c.clear_tail.new.blocks.items) c.args.len c.args.distance i g.met.B.BitBlock.width_law.positive moved
    (rw (take_at new (drop (length new) old.items) old.len (omega arith)) at (c.clear_tail.ensures.values i))
