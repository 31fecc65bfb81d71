use Rattle.std.proofs.Common.{◌≡◌, ◌+◌, ◌*◌, ◌≤◌, not, map, ap, arith, div-add-mod', mod-lt, mul-le-mul_right}
use Rattle.bit_blocks.{specs.Storage.value_at, proofs.{BitsLemmas.{block_begins, blocks_for-above, blocks_for-enough}, SearchLemmas.{first_past_none, none_more, zero_within}}}
use Rattle.bit_blocks.proofs.packed.searching.first_zero.Goals as goal

pub zero_in_block-requires-clause-in_bounds : goal.zero_in_block-requires-clause-in_bounds
zero_in_block-requires-clause-in_bounds g c = omega (arith, blocks_for-above _ c.args.len c.args.from g.met.B.BitBlock.width_law.positive c.requires.within, c.requires.packed.count)

pub zero_in_block-requires-clause-fits : goal.zero_in_block-requires-clause-fits
zero_in_block-requires-clause-fits g c = λ i first. omega (arith, zero_within _ _ c.args.len i _ c.requires.packed.tail (omega arith) first)

pub loop-k-init : goal.loop-k-init
loop-k-init g c = λ j from before. c.in_default.ensures j from (omega (arith, before, ap (λ k. k * g.B.BitBlock.width) c.block_index-k.ensures))

pub overflow_mul-k : goal.overflow_mul-k
overflow_mul-k g c =
    omega (arith, block_begins _ c.args.len c.loop-k.k c.bits.result _ g.met.B.BitBlock.width_law.positive c.bits.ensures c.requires.packed.count c.loop-k-test.true, c.requires.packed.fits)

pub zero_in_block-requires-in-loop-k-clause-in_bounds : goal.zero_in_block-requires-in-loop-k-clause-in_bounds
zero_in_block-requires-in-loop-k-clause-in_bounds g c =
    let pos = g.met.B.BitBlock.width_law.positive in
    let first = block_begins _ c.args.len c.loop-k.k c.bits.result _ pos c.bits.ensures c.requires.packed.count c.loop-k-test.true in
    omega (arith, blocks_for-above _ c.args.len (c.loop-k.k * c.bits.result) pos first, c.requires.packed.count)

pub zero_in_block-requires-in-loop-k-clause-fits : goal.zero_in_block-requires-in-loop-k-clause-fits
zero_in_block-requires-in-loop-k-clause-fits g c = λ i first.
    let start = block_begins _ c.args.len c.loop-k.k c.bits.result _ g.met.B.BitBlock.width_law.positive c.bits.ensures c.requires.packed.count c.loop-k-test.true in
    omega (arith, zero_within _ _ c.args.len i _ c.requires.packed.tail (omega arith) first, c.requires.packed.fits)

pub returns-in-Some-zero_in_block : goal.returns-in-Some-zero_in_block
returns-in-Some-zero_in_block g c =
    let w = g.B.BitBlock.width in
    let at : c.loop-k.k * c.bits.result ≡ c.loop-k.k * w = ap (λ b. c.loop-k.k * b) c.bits.ensures in
    let past : (c.block_index-k.result + 1) * w ≤ c.loop-k.k * w = mul-le-mul_right w c.loop-k.auto.k in
    let block = ap (λ k. k * w) c.block_index-k.ensures in
    first_past_none c.args.from (c.loop-k.k * c.bits.result) _ _ (omega (arith, at, past, block, div-add-mod' c.args.from w, mod-lt c.args.from g.met.B.BitBlock.width_law.positive))
    (λ j from below. c.loop-k.invariant j from (omega (arith, at, below))) c.in-Some-zero_in_block.ensures

pub loop-k-preserved : goal.loop-k-preserved
loop-k-preserved g c =
    let w = g.B.BitBlock.width in
    none_more w c.args.from c.loop-k.k c.bits.result
    (λ i. not (value_at w (map g.B.BitBlock.number c.args.blocks.now) i)) g.met.B.BitBlock.width_law.positive c.bits.ensures
    c.loop-k.invariant c.in_default-zero_in_block.ensures

pub returns : goal.returns
returns g c =
    let w = g.B.BitBlock.width in
    let pos = g.met.B.BitBlock.width_law.positive in
    let all = mul-le-mul_right w c.loop-k-test.false in
    record {
      passes = ap not (c.requires.packed.tail.zero_tail c.args.len (omega arith));
      reached = omega (arith, c.requires.within);
      between = λ j from before. c.loop-k.invariant j from (omega (arith, before, all, ap (λ n. n * w) c.requires.packed.count, blocks_for-enough w c.args.len pos));
    }
