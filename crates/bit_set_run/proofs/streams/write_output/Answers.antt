use Rattle.std.proofs.{Common.{rules, inl, inr}, lemmas.List.take_rest}
use Rattle.bit_set_run.proofs.StreamLemmas.{HasSent-more}
use Rattle.bit_set_run.proofs.streams.write_output.Goals as goal

pub loop-rest-preserved : goal.loop-rest-preserved
loop-rest-preserved g c =
    let contents = g.W.Write.contents in
    rw take_rest
    (HasSent-more (contents c.args.writer.now) (contents c.loop-rest.writer) (contents c.write.new.self) c.args.text.now c.loop-rest.rest.now c.in-Ok.count c.loop-rest.invariant c.in-Ok.ensures.bytes)

pub returns-in-Ok-eq0-clause-write : goal.returns-in-Ok-eq0-clause-write
returns-in-Ok-eq0-clause-write g c =
    let so_far = c.loop-rest.invariant in
    record { sent = so_far.sent; unsent = c.loop-rest.rest.now; parts = so_far.parts; written = search rules; stopped = inl (search rules) }

pub returns-in-Ok-eq0-2-clause-write : goal.returns-in-Ok-eq0-2-clause-write
returns-in-Ok-eq0-2-clause-write g c =
    let so_far = c.loop-rest.invariant in
    record { sent = so_far.sent; unsent = c.loop-rest.rest.now; parts = so_far.parts; written = search rules; stopped = inl (search rules) }

pub returns-in-Err-clause-write : goal.returns-in-Err-clause-write
returns-in-Err-clause-write g c =
    let so_far = c.loop-rest.invariant in
    record { sent = so_far.sent; unsent = c.loop-rest.rest.now; parts = so_far.parts; written = search rules; stopped = inr c.in-Err.field-0 }
