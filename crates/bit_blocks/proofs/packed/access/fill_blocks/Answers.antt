use Rattle.std.proofs.{Common.{drop, length, refl, arith}, lemmas.List.take_at}
use Rattle.bit_blocks.proofs.packed.access.fill_blocks.Goals as goal

pub fill_slice-requires-clause-in_bounds : goal.fill_slice-requires-clause-in_bounds
fill_slice-requires-clause-in_bounds g c = rw c.as_mut_slice.ensures.len c.requires.in_bounds

pub fill_slice-requires-clause-each : goal.fill_slice-requires-clause-each
fill_slice-requires-clause-each g c = rw c.as_mut_slice.ensures.value c.requires.each

pub returns-clause-fills : goal.returns-clause-fills
returns-clause-fills g c =
    let new = c.fill_slice.new.blocks in
    let old = c.args.blocks.now in
    rw (take_at new (drop (length new) old.items) old.len (omega arith)) (rw c.as_mut_slice.ensures.value at c.fill_slice.ensures.fills)

pub returns-clause-in_place : goal.returns-clause-in_place
returns-clause-in_place g c =
    let new = c.fill_slice.new.blocks in
    let old = c.args.blocks.now in
    record { each = rw (take_at new (drop (length new) old.items) old.len (omega arith)) c.fill_slice.ensures.written.each; len = refl; capacity = refl }
