use Rattle.std.proofs.Common.{arith}
use Rattle.bit_words.proofs.SkipLemmas.{ones_past, skips_more, skips_none}
use Rattle.bit_words.proofs.bit_vec.nonzero.Nonzero.skip_blocks.Goals as goal

pub loop-more-init : goal.loop-more-init
loop-more-init g c = record { within = omega arith; so = skips_none g.B.BitBlock.number c.args.self.now }

pub skip_chunk-requires : goal.skip_chunk-requires
skip_chunk-requires g c = record {
  fits = let fewer = ones_past g.B.BitBlock.number c.args.self.now c.loop-more.self c.loop-more.ones c.loop-more.invariant.so in omega (arith, fewer, c.requires.fits);
}

pub loop-more-preserved : goal.loop-more-preserved
loop-more-preserved g c =
    let (most, so, _) = c.in-Some.ensures.some in
    record {
      within = omega (arith, most, c.loop-more.invariant.within);
      so = skips_more g.B.BitBlock.number c.args.self.now c.loop-more.self c.skip_chunk.new.self c.loop-more.ones c.in-Some.more c.loop-more.invariant.so so;
    }
