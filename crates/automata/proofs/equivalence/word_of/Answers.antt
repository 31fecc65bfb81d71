use Rattle.std.proofs.Common.{◌≡◌, [], arith}
use Rattle.automata.{specs.Searching.{Spells, onward, start}, proofs.PairLemmas.back_on}
use Rattle.automata.proofs.equivalence.word_of.Goals as goal

pub loop-at-preserved : goal.loop-at-preserved
loop-at-preserved c =
    let before = c.requires.before c.loop-at.at c.loop-at-test.true c.loop-at.invariant.inside in
    record {
      inside = omega (arith, before, c.loop-at.invariant.inside);
      spelled = λ word spells. rw (c.in_ok-push.ensures.items, ← back_on word c.loop-at.word.items _) (c.loop-at.invariant.spelled _ (onward c.loop-at-test.true spells));
    }

pub returns : goal.returns
returns c =
    let first_is : c.loop-at.at ≡ 0 = omega arith in
    let first : Spells c.args.queue.now c.loop-at.at [] = rw first_is start in
    rw c.reverse.ensures.items (c.loop-at.invariant.spelled [] first)
