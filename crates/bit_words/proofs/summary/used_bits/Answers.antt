use Rattle.std.proofs.Common.{◌≡◌, ◌∙◌, ◌==◌, not, ap, arith}
use Rattle.bit_words.proofs.UsedLemmas.{says_more}
use Rattle.bit_words.proofs.summary.used_bits.Goals as goal

pub loop-j-preserved : goal.loop-j-preserved
loop-j-preserved g c =
    let used = c.is_nonzero.ensures ∙ ap (λ m. not (m == 0)) c.block_at.ensures.of_number in
    says_more _ _ _ c.args.start c.loop-j.j _ _ _ c.loop-j.invariant c.with_one_if-digits.ensures.of_block (c.with_one_if-digits.ensures.same ∙ used) c.with_one_if-digits.ensures.others

pub block_at-requires-clause-in_bounds : goal.block_at-requires-clause-in_bounds
block_at-requires-clause-in_bounds g c = omega arith

pub returns : goal.returns
returns g c = let end : c.loop-j.j ≡ c.args.count = omega arith in rw end at c.loop-j.invariant
