use Rattle.std.proofs.{Common.{◌+◌, ◌*◌, ◌/◌, ◌%◌, ◌<◌, ◌≤◌, min, drop, length, refl, ap, ◌∙◌, arith, mod-lt, div-add-mod'}, Math.Nat.div-lt_iff_lt-mul, lemmas.List.drop_min}
use Rattle.bit_words.{specs.{Pending.IsStoredFrom, Summary.short_count}, proofs.PendingLemmas.{IsCutPast, IsInHand-cut, count_from, left-cut, stored_from_all, stored_past, stored_some}}
use Rattle.bit_words.proofs.bit_vec.pending.Pending.after.{Given.Over, Goals.After-over-rest}
use Rattle.bit_words.proofs.bit_vec.pending.Pending.after.Goals as goal

-- what is stored of the summary from the block for the first one on
stored : (g : Over) (c : After-over-rest g)
    → IsStoredFrom g.B.BitBlock.width g.B.BitBlock.number g.B.BitBlock.is_block
    (c.args.first / g.B.BitBlock.width * g.B.BitBlock.width) (length c.args.blocks.now) c.args.blocks.now c.over-rest.result.left
stored g c =
    let w = g.B.BitBlock.width in
    let pos = g.met.B.BitBlock.width_law.positive in
    let xs = c.args.blocks.now in
    let summary = c.args.summary.now in
    let q = c.args.first / w in
    let all = stored_from_all w g.B.BitBlock.number g.B.BitBlock.is_block xs summary pos c.requires.summary in
    let there : short_count w < length xs → q ≤ length summary = λ long. let less = (div-lt_iff_lt-mul {k = w} pos).1
    (let most : c.args.first < length summary * w = omega (arith, all.enough long, c.requires.inside, long) in most) in omega (arith, less) in
    stored_past w g.B.BitBlock.number g.B.BitBlock.is_block q 0 (q * w) (length xs) xs summary c.over-rest.result.left pos (omega arith) all there
    (c.over-rest.ensures.left
    ∙ c.split_at.ensures.back
    ∙ ap (λ n. drop n summary) (c.min.ensures ∙ ap (λ n. min (c.args.first / n) (length summary)) c.bits.ensures)
    ∙ drop_min q summary)

pub pull_used-used-requires : goal.pull_used-used-requires
pull_used-used-requires g c = rw (c.bits.ensures, c.bits-2.ensures) (record {
  in_bounds = omega (arith, div-add-mod' c.args.first g.B.BitBlock.width, c.requires.inside);
  to = omega arith;
  each = c.requires.each;
  stored = stored g (goal.at.pull_used-used-requires g c).After-over-rest;
})

pub returns : goal.returns
returns g c =
    let w = g.B.BitBlock.width in
    let number = g.B.BitBlock.number in
    let is_block = g.B.BitBlock.is_block in
    let pos = g.met.B.BitBlock.width_law.positive in
    let xs = c.args.blocks.now in
    let first = c.args.first in
    let start = first / w * w in
    let end = length xs in
    let whole = div-add-mod' first w in
    let rest = stored g (goal.at.returns g c).After-over-rest in
    let used = c.pull_used-used.result in
    let bits = c.clear_below.result in
    let cut : IsCutPast w number is_block start end (first % w) used bits xs = record {
      covers = rw (c.bits.ensures, c.bits-2.ensures) at c.pull_used-used.ensures.digits;
      of_block = c.clear_below.ensures.of_block;
      cut = rw c.bits-3.ensures at c.clear_below.ensures.digits;
    } in
    rw (c.bits.ensures, c.bits-2.ensures) (record {
      walk = record {
        hand = IsInHand-cut w number is_block start end (first % w) used bits xs c.requires.each c.requires.fits (omega (arith, whole, c.requires.inside)) (omega arith) cut;
        stored = stored_past w number is_block 1 start (start + w) end xs c.over-rest.result.left c.pull_used-used.new.summary.left pos (omega arith) rest
            (λ long. stored_some w number is_block start end xs c.over-rest.result.left rest (omega (arith, whole, c.requires.inside, long)) long) c.pull_used-used.ensures.left;
      };
      end = refl;
      left = left-cut w number is_block start end (first % w) first used bits xs (mod-lt first pos) (omega (arith, whole)) cut;
      index = refl;
      pulls = omega (arith, c.pull_used-used.ensures.pulls, c.over-rest.ensures.pulls);
      count = count_from w (first / w) start end pos (omega arith) (omega (arith, whole, c.requires.inside));
    })

pub nonzero_div-chunk : goal.nonzero_div-chunk
nonzero_div-chunk g c = rw c.bits.ensures g.met.B.BitBlock.width_law.positive

pub overflow_mul-index : goal.overflow_mul-index
overflow_mul-index g c = rw (c.bits.ensures, c.bits-2.ensures) (record { fits = omega (arith, div-add-mod' c.args.first g.B.BitBlock.width, c.ranges.first.fits) })

pub split_at-requires : goal.split_at-requires
split_at-requires g c = omega (arith, c.min.ensures)

pub nonzero_rem-first : goal.nonzero_rem-first
nonzero_rem-first g c = rw c.bits-3.ensures g.met.B.BitBlock.width_law.positive

pub overflow_add-first : goal.overflow_add-first
overflow_add-first g c =
    rw c.bits-3.ensures (record { fits = omega (arith, mod-lt c.args.first g.met.B.BitBlock.width_law.positive, g.met.B.BitBlock.width_law.fits) })

pub clear_below-requires : goal.clear_below-requires
clear_below-requires g c = c.pull_used-used.ensures.of_block
