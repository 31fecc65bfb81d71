use Rattle.std.proofs.{Common.{drop, length, refl, arith}, lemmas.List.take_at}
use Rattle.bit_blocks.proofs.packed.spans.merge_span.Goals as goal

pub merge_in-requires-clause-within : goal.merge_in-requires-clause-within
merge_in-requires-clause-within g c = rw c.as_mut_slice.ensures.len c.requires.within

pub merge_in-requires-clause-each : goal.merge_in-requires-clause-each
merge_in-requires-clause-each g c = rw c.as_mut_slice.ensures.value c.requires.each

pub returns-clause-span : goal.returns-clause-span
returns-clause-span g c =
    let new = c.merge_in.new.blocks in
    let old = c.args.blocks.now in
    rw (take_at new (drop (length new) old.items) old.len (omega arith)) (rw c.as_mut_slice.ensures.value at c.merge_in.ensures.span)

pub returns-clause-in_place : goal.returns-clause-in_place
returns-clause-in_place g c =
    let new = c.merge_in.new.blocks in
    let old = c.args.blocks.now in
    record { each = rw (take_at new (drop (length new) old.items) old.len (omega arith)) c.merge_in.ensures.written.each; len = refl; capacity = refl }
