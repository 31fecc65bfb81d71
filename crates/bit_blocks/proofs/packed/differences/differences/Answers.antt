use Rattle.std.proofs.Common.{◌≡◌, ◌+◌, arith}
use Rattle.bit_blocks.proofs.BlockMergeLemmas.{same_none, same_one, same_so_far}
use Rattle.bit_blocks.proofs.packed.differences.differences.Goals as goal

pub loop-k-init : goal.loop-k-init
loop-k-init g c = record {
  of_block = c.zero-difference.ensures.of_block;
  same = (λ none. same_none _ _ c.args.start c.args.start _ _ (omega arith), λ is. c.zero-difference.ensures.of_number);
}

pub loop-k-preserved : goal.loop-k-preserved
loop-k-preserved g c =
    let law = g.met.B.BitBlock in
    let k = c.loop-k.k in
    let read = c.block_at.ensures in
    let other = c.block.ensures in
    let one = same_one g.B.BitBlock.width g.B.BitBlock.number k _ _ (g.S.Others.digit c.args.others) _ read.of_number
    (law.number_law c.block_at.result read.of_block).0 (law.number_law c.block.result other.of_block).0 other.digits in
    record {
      of_block = c.or_mismatch-difference.ensures.of_block;
      same = same_so_far _ _ c.args.start k _ _ _ _ _ _ c.loop-k.auto.k one c.loop-k.invariant.same c.or_mismatch-difference.ensures.none;
    }

pub returns-clause-none : goal.returns-clause-none
returns-clause-none g c =
    let end : c.loop-k.k ≡ c.args.start + c.args.count = omega arith in
    rw end at c.loop-k.invariant.same
