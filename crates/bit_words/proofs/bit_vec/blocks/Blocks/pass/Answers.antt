use Rattle.std.proofs.{Common.{drop, sym, ap, ◌∙◌}, Math.Seq.drop-drop}
use Rattle.bit_words.proofs.bit_vec.blocks.Blocks.pass.Goals as goal

pub returns-clause-left : goal.returns-clause-left
returns-clause-left g c = sym (drop-drop 1 c.self.inside.at c.self.inside.blocks.now) ∙ ap (λ s. drop 1 s.left) c.self.view_is
