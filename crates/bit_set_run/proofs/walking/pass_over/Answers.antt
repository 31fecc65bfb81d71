use Rattle.std.proofs.Common.{ap, ◌∙◌, ◌≡◌, ◌+◌, ◌-◌, drop, arith}
use Rattle.bit_set_run.proofs.WalkingLemmas.{left_of_skipped}
use Rattle.bit_set_run.proofs.walking.pass_over.Goals as goal

pub returns-then-count-gt0 : goal.returns-then-count-gt0
returns-then-count-gt0 g c =
    let all : c.args.count - 1 + 1 ≡ c.args.count = omega arith in
    left_of_skipped g.W.Iterator.next_gives g.W.NumberWalk.left g.met.W.NumberWalk.gives c.args.walk.now c.nth-last.new.self (c.args.count - 1) c.nth-last.result c.nth-last.ensures.ran ∙ ap (λ n. drop n (g.W.NumberWalk.left c.args.walk.now)) all
