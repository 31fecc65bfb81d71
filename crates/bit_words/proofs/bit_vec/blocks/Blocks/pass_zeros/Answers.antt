use Rattle.std.proofs.{Common.{drop, ap, ◌∙◌, arith}, Math.Seq.drop-drop}
use Rattle.bit_words.proofs.bit_vec.blocks.Blocks.pass_zeros.Goals as goal

pub loop-preserved : goal.loop-preserved
loop-preserved g c = record {
  left = c.pass.ensures.left ∙ ap (drop 1) c.loop.invariant.left ∙ drop-drop 1 c.loop.counter c.args.self.now.left;
  pulls = omega (arith, c.pass.ensures.pulls, c.loop.invariant.pulls);
}
