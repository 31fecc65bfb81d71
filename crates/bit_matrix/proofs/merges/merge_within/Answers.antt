use Rattle.std.proofs.{Common.{◌+◌, ◌≤◌, ◌++◌, ◌≡◌, [], length, map, refl, arith, length-append}, lemmas.List.{Elements.{All-append, All-drop, All-take}, append-nil, length-map}}
use Rattle.bit_matrix.proofs.PartLemmas.{IsPut, after_other, back_block, before_other, is_put, part_merged, part_stays}
use Rattle.bit_matrix.proofs.PartLemmas.{slice_block}
use Rattle.bit_matrix.proofs.merges.merge_within.Goals.{After-merge_others, After-merge_others-then-write-read}
use Rattle.bit_matrix.proofs.merges.merge_within.Goals as goal

-- what is behind the front changed
behind : (g : _) (c : After-merge_others g) → IsPut c.args.write (map g.B.BitBlock.number c.split_at_mut-front.result.1.now)
    (map g.B.BitBlock.number c.merge_others.new.blocks) (map g.B.BitBlock.number c.args.blocks.now)
    (map g.B.BitBlock.number (c.split_at_mut-front.result.0.now ++ c.merge_others.new.blocks))
behind g c =
    rw c.split_at_mut-front.ensures.value
    (rw (append-nil c.split_at_mut-front.result.1.now, append-nil c.merge_others.new.blocks) at
    (is_put g.B.BitBlock.number c.split_at_mut-front.result.0.now c.split_at_mut-front.result.1.now c.merge_others.new.blocks
    [] c.args.write c.split_at_mut-front.ensures.front_len c.merge_others.ensures.len))

-- the front changed
before : (g : _) (c : After-merge_others-then-write-read g)
    → IsPut 0 (map g.B.BitBlock.number c.split_at_mut-front-then-write-read.result.0.now)
    (map g.B.BitBlock.number c.merge_others-then-write-read.new.blocks) (map g.B.BitBlock.number c.args.blocks.now)
    (map g.B.BitBlock.number (c.merge_others-then-write-read.new.blocks ++ c.split_at_mut-front-then-write-read.result.1.now))
before g c =
    rw c.split_at_mut-front-then-write-read.ensures.value
    (is_put g.B.BitBlock.number [] c.split_at_mut-front-then-write-read.result.0.now
    c.merge_others-then-write-read.new.blocks c.split_at_mut-front-then-write-read.result.1.now 0 refl
    c.merge_others-then-write-read.ensures.len)

pub returns-then-read-write : goal.returns-then-read-write
returns-then-read-write g c =
    let at = (goal.at.returns-then-read-write g c).After-merge_others in
    let f = g.B.BitBlock.number in
    let P = g.B.BitBlock.is_block in
    let parts = c.split_at_mut-front in
    let apart = before_other c.args.read c.args.write c.args.count c.requires.apart (omega arith) in
    let fits : 0 + c.args.count ≤ length (map f parts.result.1.now) = omega (arith, length-map parts.result.1.now f, parts.ensures.back_len, c.requires.in_write) in
    let made = rw c.split_at-then-read-write.ensures.front_len at c.merge_others.ensures in
    record {
      merged = part_merged g.O.Operation.merge g.B.BitBlock.width c.args.write 0 c.args.write c.args.read c.args.count _ _ _ _ _ _
          (omega arith) (behind g at) made.merged fits
          (λ k below. slice_block f _ _ _ _ _ c.args.read c.args.count k parts.ensures.value c.split_at.ensures.back
          c.split_at-then-read-write.ensures.front (omega (arith, apart, parts.ensures.front_len)) below);
      unchanged = part_stays c.args.write 0 c.args.write c.args.count _ _ _ _ _ (omega arith) (behind g at) fits made.unchanged;
      each = All-append P _ _ (rw parts.ensures.front (All-take P c.args.write c.args.blocks.now c.requires.each)) made.each;
      len = omega (arith, length-append parts.result.0.now c.merge_others.new.blocks, parts.ensures.front_len, parts.ensures.back_len, made.len);
    }

pub returns-then-write-read : goal.returns-then-write-read
returns-then-write-read g c =
    let at = (goal.at.returns-then-write-read g c).After-merge_others-then-write-read in
    let f = g.B.BitBlock.number in
    let P = g.B.BitBlock.is_block in
    let parts = c.split_at_mut-front-then-write-read in
    let apart = after_other c.args.read c.args.write c.args.count c.requires.apart (omega arith) in
    let fits : c.args.write + c.args.count ≤ length (map f parts.result.0.now) = omega (arith, length-map parts.result.0.now f, parts.ensures.front_len, apart) in
    let made = rw c.split_at-then-write-read.ensures.front_len at c.merge_others-then-write-read.ensures in
    record {
      merged = part_merged g.O.Operation.merge g.B.BitBlock.width 0 c.args.write c.args.write c.args.read c.args.count _ _ _ _ _ _
          (omega arith) (before g at) made.merged fits
          (λ k below. back_block f _ _ _ _ c.args.read c.args.count k parts.ensures.value parts.ensures.front_len c.split_at-then-write-read.ensures.front below);
      unchanged = part_stays 0 c.args.write c.args.write c.args.count _ _ _ _ _ (omega arith) (before g at) fits made.unchanged;
      each = All-append P _ _ made.each (rw parts.ensures.back (All-drop P c.args.read c.args.blocks.now c.requires.each));
      len = omega (arith, length-append c.merge_others-then-write-read.new.blocks parts.result.1.now, parts.ensures.front_len, parts.ensures.back_len, made.len);
    }

pub returns-else-write-read : goal.returns-else-write-read
returns-else-write-read g c = let same : c.args.read ≡ c.args.write = omega arith in rw same c.merge_same.ensures

pub split_at-requires-then-read-write : goal.split_at-requires-then-read-write
split_at-requires-then-read-write g c =
    omega (arith, before_other c.args.read c.args.write c.args.count c.requires.apart (omega arith), c.split_at.ensures.back_len, c.split_at_mut-front.ensures.front_len)

pub merge_others-requires-clause-in_write : goal.merge_others-requires-clause-in_write
merge_others-requires-clause-in_write g c = omega (arith, c.split_at-then-read-write.ensures.front_len, c.split_at_mut-front.ensures.back_len, c.requires.in_write)

pub merge_others-requires-clause-each : goal.merge_others-requires-clause-each
merge_others-requires-clause-each g c = rw c.split_at_mut-front.ensures.back (All-drop g.B.BitBlock.is_block c.args.write c.args.blocks.now c.requires.each)

pub merge_others-requires-clause-others : goal.merge_others-requires-clause-others
merge_others-requires-clause-others g c =
    let P = g.B.BitBlock.is_block in
    rw (c.split_at-then-read-write.ensures.front, c.split_at.ensures.back, c.split_at_mut-front.ensures.front)
    (All-take P c.args.count _ (All-drop P c.args.read _ (All-take P c.args.write c.args.blocks.now c.requires.each)))

pub merge_others-requires-then-write-read-clause-in_write : goal.merge_others-requires-then-write-read-clause-in_write
merge_others-requires-then-write-read-clause-in_write g c =
    omega (arith, after_other c.args.read c.args.write c.args.count c.requires.apart (omega arith), c.split_at-then-write-read.ensures.front_len, c.split_at_mut-front-then-write-read.ensures.front_len)

pub merge_others-requires-then-write-read-clause-each : goal.merge_others-requires-then-write-read-clause-each
merge_others-requires-then-write-read-clause-each g c = rw c.split_at_mut-front-then-write-read.ensures.front (All-take g.B.BitBlock.is_block c.args.read c.args.blocks.now c.requires.each)

pub merge_others-requires-then-write-read-clause-others : goal.merge_others-requires-then-write-read-clause-others
merge_others-requires-then-write-read-clause-others g c =
    let P = g.B.BitBlock.is_block in
    rw (c.split_at-then-write-read.ensures.front, c.split_at_mut-front-then-write-read.ensures.back) (All-take P c.args.count _ (All-drop P c.args.read c.args.blocks.now c.requires.each))

pub merge_same-requires-clause-within : goal.merge_same-requires-clause-within
merge_same-requires-clause-within g c = c.requires.in_write

pub merge_same-requires-clause-each : goal.merge_same-requires-clause-each
merge_same-requires-clause-each g c = c.requires.each
