use Rattle.std.proofs.Common.{◌≡◌, ◌+◌, ◌++◌, count_ones, length, min, take, drop, sym, ap, ◌∙◌, arith}
use Rattle.std.specs.List.{sum_by}
use Rattle.std.proofs.{lemmas.List.{length-append, Sums.sum_by-append}, Math.Seq.{drop-append_seam, take-append_seam}}
use Rattle.bit_blocks.specs.Storage.{ones_in}
use Rattle.bit_words.specs.{Nonzero.ones_left, Pending.{left_from, next_at}}
use Rattle.bit_words.proofs.{SkipLemmas.{IsPastChunk, past_chunk}, bit_vec.nonzero.Nonzero.skip_chunk.{Given.Over, Goals.After-first_blocks}}
use Rattle.bit_words.proofs.bit_vec.nonzero.Nonzero.skip_chunk.Goals as goal

-- the chunk, and what is past it
past : (g : Over) (c : After-first_blocks g)
    → IsPastChunk g.B.BitBlock.width g.B.BitBlock.number g.B.BitBlock.is_block c.self.inside.pending.index
    c.self.inside.pending.end c.self.inside.pending.bits c.self.inside.blocks.now
    c.self.inside.pending.summary.left
past g c =
    past_chunk g.B.BitBlock.width g.B.BitBlock.number g.B.BitBlock.is_block _ _ _ _ _ _ g.met.B.BitBlock.width_law.positive
    c.self.invariant c.in_ok-used.ensures

-- its blocks are those that are read
read : (g : Over) (c : After-first_blocks g)
    → c.first_blocks.result.0.now ≡ take g.B.BitBlock.width (drop (c.self.inside.pending.index + g.B.BitBlock.width) c.self.inside.blocks.now)
read g c =
    let start = ap (λ b. c.self.inside.pending.index + b) c.bits-2.ensures in
    c.first_blocks.ensures.first ∙ ap (take g.B.BitBlock.width) (c.split_at.ensures.back ∙ ap (λ p. drop p c.self.inside.blocks.now) start)

-- their ones are some of those that are left
counted : (g : Over) (c : After-first_blocks g) → ones_in g.B.BitBlock.number c.first_blocks.result.0.now ≡ ones_left g.B.BitBlock.number (past g c).chunk
counted g c = ap (ones_in g.B.BitBlock.number) (read g c) ∙ sym (past g c).ones

parts : (g : Over) (c : After-first_blocks g)
    → c.args.self.now.left ≡ (past g c).chunk ++ left_from g.B.BitBlock.number
    (next_at g.B.BitBlock.width (c.self.inside.pending.index + g.B.BitBlock.width)
    (g.B.BitBlock.number c.self.inside.pending.bits)) c.self.inside.pending.end c.self.inside.blocks.now
parts g c = sym (ap (λ v. v.left) c.self.view_is) ∙ (past g c).split

pub pull_chunk-ones-requires-clause-fits : goal.pull_chunk-ones-requires-clause-fits
pull_chunk-ones-requires-clause-fits g c =
    let w = g.B.BitBlock.width in
    let number = g.B.BitBlock.number in
    let at = (goal.at.pull_chunk-ones-requires-clause-fits g c).After-first_blocks in
    let all = ap (ones_left number) (parts g at) in
    omega (arith, counted g at, all, sum_by-append (λ entry. count_ones (number entry.1)) (past g at).chunk (left_from number (next_at w (c.self.inside.pending.index + w) (number c.self.inside.pending.bits)) c.self.inside.pending.end c.self.inside.blocks.now), c.requires.fits)

pub invariant_of-self : goal.invariant_of-self
invariant_of-self g c =
    let at = (goal.at.invariant_of-self g c).After-first_blocks in
    rw (c.pass_chunk.ensures.index, c.pass_chunk.ensures.end, c.pass_chunk.ensures.bits, c.pass_chunk.ensures.left) (past g at).walk

pub returns-clause-some : goal.returns-clause-some
returns-clause-some g c =
    let w = g.B.BitBlock.width in
    let number = g.B.BitBlock.number in
    let at = (goal.at.returns-clause-some g c).After-first_blocks in
    let it = c.self.inside.pending in
    let xs = c.self.inside.blocks.now in
    let over = past g at in
    let rest = left_from number (next_at w (it.index + w) (number it.bits)) it.end xs in
    let is = c.self.view_is in
    let whole = parts g at in
    let passed = c.pass_chunk.ensures in
    let chunk = ap (sum_by (λ x. min 1 (number x))) (read g at) in
    rw (passed.index, passed.end, passed.bits) (
      omega (arith, c.if-ones-most.false),
      record {
        count = length over.chunk;
        within = let all = ap length whole in omega (arith, all, length-append over.chunk rest);
        left = sym (ap (drop (length over.chunk)) whole ∙ drop-append_seam over.chunk rest);
        passed = c.pull_chunk-ones.ensures.ones ∙ counted g at ∙ ap (ones_left number) (sym (ap (take (length over.chunk)) whole ∙ take-append_seam over.chunk rest));
        same = ap (λ v. v.blocks) is;
        counted = let pulls = ap (λ v. v.pulls) is in omega (arith, c.pull_chunk-ones.ensures.steps, c.clone-steps.ensures, pulls, over.count, chunk);
        goes_on = let pulls = ap (λ v. v.summary_pulls) is in omega (arith, passed.pulls, pulls);
        summary =
            let pulls = ap (λ v. v.summary_pulls) is in
            let left = ap (λ v. v.summary_left) is in
            omega (arith, passed.pulls, pulls, left, over.one_less);
      },
      let left = ap (λ v. v.summary_left) is in omega (arith, left, over.one_less),
    )
