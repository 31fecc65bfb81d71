use Rattle.std.proofs.Common.{All, drop, sym, ap, subst, ◌∙◌, arith}
use Rattle.bit_words.proofs.PendingLemmas.{CoversUsed-all, CoversUsed-exact, CoversUsed-stored}
use Rattle.bit_words.proofs.bit_vec.pending.pull_used.Goals as goal

pub clear_from-requires : goal.clear_from-requires
clear_from-requires g c = (subst (All g.B.BitBlock.is_block) c.in-Some.ensures.steps.item c.requires.stored.each) 0 c.in-Some.used (omega arith)

pub returns-in-Some : goal.returns-in-Some
returns-in-Some g c =
    let pulled = c.in-Some.ensures.steps in
    record {
      of_block = c.clear_from.ensures.of_block;
      digits = CoversUsed-stored g.B.BitBlock.width g.B.BitBlock.number g.B.BitBlock.is_block c.args.start c.args.end
          (g.B.BitBlock.number c.clear_from.result) c.in-Some.used c.args.blocks.now c.args.summary.now.left
          c.next-pulled.new.self.left c.requires.in_bounds pulled.item c.requires.stored c.clear_from.ensures.digits;
      left = sym (ap (drop 1) pulled.item);
      pulls = pulled.counted;
    }

pub used_from-requires : goal.used_from-requires
used_from-requires g c = record { in_bounds = omega (arith, c.requires.in_bounds, c.requires.to); each = c.requires.each }

pub clear_from-requires-in-NonzeroPastZero : goal.clear_from-requires-in-NonzeroPastZero
clear_from-requires-in-NonzeroPastZero g c = c.used_from.ensures.of_block

pub returns-in-NonzeroPastZero : goal.returns-in-NonzeroPastZero
returns-in-NonzeroPastZero g c =
    let pulled = c.in_default.ensures.steps in
    record {
      of_block = c.clear_from-in-NonzeroPastZero.ensures.of_block;
      digits = CoversUsed-exact g.B.BitBlock.width g.B.BitBlock.number g.B.BitBlock.is_block c.args.start c.args.end (g.B.BitBlock.number c.used_from.result)
          (g.B.BitBlock.number c.clear_from-in-NonzeroPastZero.result) c.args.blocks.now c.requires.in_bounds
          (λ j within _. c.used_from.ensures.digits j within) c.clear_from-in-NonzeroPastZero.ensures.digits;
      left = pulled.item.1 ∙ sym (ap (drop 1) pulled.item.0);
      pulls = pulled.counted;
    }

pub returns-in_default-unstored : goal.returns-in_default-unstored
returns-in_default-unstored g c =
    let pulled = c.in_default.ensures.steps in
    record {
      of_block = c.ones_for.ensures.of_block;
      digits = CoversUsed-all g.B.BitBlock.width g.B.BitBlock.number g.B.BitBlock.is_block c.args.start c.args.end
          (g.B.BitBlock.number c.ones_for.result) c.args.blocks.now c.requires.in_bounds c.ones_for.ensures.digits;
      left = pulled.item.1 ∙ sym (ap (drop 1) pulled.item.0);
      pulls = pulled.counted;
    }
