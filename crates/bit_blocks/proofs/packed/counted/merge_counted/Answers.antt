use Rattle.std.proofs.Common.{◌≡◌, ◌+◌, ◌∙◌, ap, get_or, length, map, refl, arith}
use Rattle.bit_blocks.{specs.{BlockMerges.other_at, Digits.is_one}, proofs.BlockMergeLemmas.{merged_more, merged_none, merged_same}}
use Rattle.bit_blocks.proofs.packed.counted.merge_counted.Goals as goal

pub loop-k-init : goal.loop-k-init
loop-k-init g c = record { has = merged_none _ _ _ _ _ _ _ _ c.requires.can.each (omega arith); steps = omega arith }

pub loop-k-preserved : goal.loop-k-preserved
loop-k-preserved g c =
    let k = c.loop-k.k in
    let os = map g.B.BitBlock.number c.args.others.now in
    let one = merged_same _ _ _ _ k (k + 1) _ (other_at os) _ _
    (λ q j from below index. ap (λ n. is_one n j) (c.block_or_zero.ensures.of_number ∙ ap (λ p. get_or os p 0) (let e : k ≡ q = omega (arith, from, below) in e)))
    c.merge_block_counted.ensures.has in
    record {
      has = merged_more _ _ _ _ 0 k (k + 1) _ _ _ _ _ _ (omega arith) (omega arith) refl refl c.loop-k.invariant.has one;
      steps = omega (arith, c.merge_block_counted.ensures.steps, c.loop-k.invariant.steps);
    }

pub returns : goal.returns
returns g c =
    let end : c.loop-k.k ≡ length c.args.blocks.now = omega (arith, c.loop-k.invariant.has.len) in
    record { has = rw end at c.loop-k.invariant.has; steps = omega (arith, end, c.loop-k.invariant.steps) }
