use Rattle.std.proofs.Common.{◌≡◌, ◌+◌, ◌-◌, ◌<◌, ◌/◌, ◌%◌, take, take_all, ap, sym, ◌∙◌, arith}
use Rattle.std.proofs.lemmas.Bool.Decides.{nat_tests}
use Rattle.bit_blocks.specs.Bits.{blocks_for}
use Rattle.bit_words.proofs.LastLemmas.{chunk_ended, chunk_goes_on}
use Rattle.bit_words.proofs.bit_vec.pending.Pending.drop_last.Goals as goal

pub returns-then-count-bits-eq0-clause-stored : goal.returns-then-count-bits-eq0-clause-stored
returns-then-count-bits-eq0-clause-stored g c =
    let w = g.B.BitBlock.width in
    let it = c.args.self.now in
    let count = it.end - 1 - it.index in
    let begins : count % w ≡ 0 = grind (arith, nat_tests, rw c.bits.ensures at c.if-count-bits-eq0.true) in
    c.keep_first.ensures.left
    ∙ ap (λ b. take (count / b - 1) it.summary.left) c.bits-then-count-bits-eq0.ensures
    ∙ ap (λ n. take n it.summary.left) (chunk_ended w count g.met.B.BitBlock.width_law.positive (omega (arith, c.requires.past)) begins ∙ ap (blocks_for w) (omega arith))

pub returns-else-count-bits-eq0-clause-stored : goal.returns-else-count-bits-eq0-clause-stored
returns-else-count-bits-eq0-clause-stored g c =
    let w = g.B.BitBlock.width in
    let it = c.args.self.now in
    let count = it.end - 1 - it.index in
    let within : 0 < count % w = grind (arith, nat_tests, rw c.bits.ensures at c.if-count-bits-eq0.false) in
    let more = chunk_goes_on w count g.met.B.BitBlock.width_law.positive (omega (arith, c.requires.past)) within in
    let was = ap (blocks_for w) (let e : count + 1 - w ≡ it.end - (it.index + w) = omega (arith, c.requires.past) in e) in
    let is = ap (blocks_for w) (let e : count - w ≡ it.end - 1 - (it.index + w) = omega arith in e) in
    sym (take_all (blocks_for w (it.end - 1 - (it.index + w))) it.summary.left (omega (arith, more, was, is, c.requires.few)))
