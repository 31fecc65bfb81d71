use Rattle.std.proofs.{Common.{◌++◌, ◌+◌, drop, take, arith}, lemmas.List.length-take}
use Rattle.bit_set_run.proofs.StreamLemmas.{HasRead, HasRead-more, GaveCount-past, GaveSome-read}
use Rattle.bit_set_run.proofs.{streams.read_input.Given.Over, streams.read_input.Goals.After-extend_from_slice}
use Rattle.bit_set_run.proofs.streams.read_input.Goals as goal

pub returns-then-len-count-gt-LIMIT-clause-too_large : goal.returns-then-len-count-gt-LIMIT-clause-too_large
returns-then-len-count-gt-LIMIT-clause-too_large g c = λ _.
    let remaining = g.R.Read.remaining in
    let input = c.loop.input in
    let told = c.in-Ok.ensures in
    GaveCount-past (remaining c.args.reader.now) (remaining c.loop.reader) (remaining c.read.new.self) input.items c.read.new.buf c.loop.counter c.in-Ok.count
    c.loop.invariant told.bytes.0 told.bound.0 (let kept = c.read.auto.buf in omega (arith, kept, length-take c.min-wanted.result c.loop.piece, input.ok.0)) (omega (arith, input.ok.0))

-- with the bytes of one more read
more : (g : Over) (c : After-extend_from_slice g) → HasRead (g.R.Read.remaining c.args.reader.now) (g.R.Read.remaining c.read.new.self) (c.loop.input.items ++ take c.in-Ok.count (c.read.new.buf ++ drop c.min-wanted.result c.loop.piece)) (c.loop.counter + 1)
more g c =
    let remaining = g.R.Read.remaining in
    HasRead-more (remaining c.args.reader.now) (remaining c.loop.reader) (remaining c.read.new.self) c.loop.input.items c.read.new.buf (drop c.min-wanted.result c.loop.piece) c.loop.counter c.in-Ok.count
    c.loop.invariant c.in-Ok.ensures.bytes.0 c.in-Ok.ensures.bound.0 (omega arith) (omega (arith, c.loop.input.ok.0))

pub returns-in_err-extend_from_slice-clause-memory : goal.returns-in_err-extend_from_slice-clause-memory
returns-in_err-extend_from_slice-clause-memory g c = λ _.
    GaveSome-read _ _ _ c.loop.counter (more g (goal.at.returns-in_err-extend_from_slice-clause-memory g c).After-extend_from_slice)

pub loop-preserved : goal.loop-preserved
loop-preserved g c = rw c.in_ok-extend_from_slice.ensures.items (more g (goal.at.loop-preserved g c).After-extend_from_slice)
