use Rattle.std.{proofs.{Common.{◌≡◌, ◌+◌, ◌*◌, ◌/◌, ℕ, List, count_ones, min, length, take, drop, ap, arith}, lemmas.List.{Elements.{All-same, All-take, All-drop}, Sums.sum_by-take-le}}, specs.List.sum_by}
use Rattle.bit_words.proofs.SkipLemmas.{sum_more, sum_rest}
use Rattle.bit_words.proofs.bit_vec.nonzero.skipping.pull_chunk.Goals as goal

-- a sum over the groups so far and one more
group_more : {X : Type 0} (f : X → ℕ) (i : ℕ) (xs part : List X) → part ≡ take 8 (drop (i * 8) xs) → sum_by f (take (i * 8) xs) + sum_by f part ≡ sum_by f (take ((i + 1) * 8) xs)
group_more f i xs part is =
    let end : i * 8 + 8 ≡ (i + 1) * 8 = omega arith in
    omega (arith, ap (sum_by f) is, ap (λ m. sum_by f (take m xs)) end, sum_more f (i * 8) 8 xs)

pub pull_ones-ones-requires-clause-each : goal.pull_ones-ones-requires-clause-each
pull_ones-ones-requires-clause-each g c =
    let is_block = g.B.BitBlock.is_block in
    All-same is_block _ _ c.group_from.ensures.part (All-take is_block 8 _ (All-drop is_block (c.loop-group.group * 8) c.args.blocks.now c.requires.each))

pub pull_ones-ones-requires-clause-fits : goal.pull_ones-ones-requires-clause-fits
pull_ones-ones-requires-clause-fits g c =
    let i = c.loop-group.group in
    let more = group_more (λ x. count_ones (g.B.BitBlock.number x)) i c.args.blocks.now c.group_from.result.now c.group_from.ensures.part in
    let most = sum_by-take-le (λ x. count_ones (g.B.BitBlock.number x)) c.args.blocks.now ((i + 1) * 8) in
    omega (arith, more, most, c.loop-group.invariant.ones, c.requires.fits)

pub loop-group-preserved : goal.loop-group-preserved
loop-group-preserved g c =
    let i = c.loop-group.group in
    let xs = c.args.blocks.now in
    let part = c.group_from.result.now in
    let ones = group_more (λ x. count_ones (g.B.BitBlock.number x)) i xs part c.group_from.ensures.part in
    let used = group_more (λ x. min 1 (g.B.BitBlock.number x)) i xs part c.group_from.ensures.part in
    record {
      ones = omega (arith, ones, c.pull_ones-ones.ensures.ones, c.loop-group.invariant.ones);
      steps = omega (arith, used, c.pull_ones-ones.ensures.steps, c.loop-group.invariant.steps);
    }

pub pull_ones-requires-clause-fits : goal.pull_ones-requires-clause-fits
pull_ones-requires-clause-fits g c =
    let xs = c.args.blocks.now in
    let end : c.loop-group.group ≡ length xs / 8 = omega arith in
    let before = rw end at c.loop-group.invariant in
    let all = sum_rest (λ x. count_ones (g.B.BitBlock.number x)) (length xs / 8 * 8) xs _ c.split_at.ensures.back in
    omega (arith, all, before.ones, c.requires.fits)

pub returns : goal.returns
returns g c =
    let xs = c.args.blocks.now in
    let end : c.loop-group.group ≡ length xs / 8 = omega arith in
    let before = rw end at c.loop-group.invariant in
    let ones = sum_rest (λ x. count_ones (g.B.BitBlock.number x)) (length xs / 8 * 8) xs _ c.split_at.ensures.back in
    let used = sum_rest (λ x. min 1 (g.B.BitBlock.number x)) (length xs / 8 * 8) xs _ c.split_at.ensures.back in
    record {
      ones = omega (arith, ones, before.ones, c.pull_ones.ensures.ones);
      steps = omega (arith, used, before.steps, c.pull_ones.ensures.steps);
    }
