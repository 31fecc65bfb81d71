use Rattle.std.proofs.Common.{◌≡◌, ◌+◌, ◌-◌, ◌*◌, ◌≤◌, [], List, Option, sym, ap, subst, ◌∙◌, arith}
use Rattle.std.specs.Iterator.{YieldsFirst}
use Rattle.bit_blocks.proofs.BitsLemmas.{blocks_for-enough}
use Rattle.bit_words.{specs.Pending.IsStoredFrom, proofs.PendingLemmas.stored_ended}
use Rattle.bit_words.proofs.bit_vec.nonzero.Nonzero.count_end.Goals as goal

-- a pull past the end leaves nothing
none_past_end : {X : Type 0} (xs ys : List X) (r : Option X) → YieldsFirst (λ zs. zs) xs r ys → xs ≡ [] → ys ≡ []
none_past_end xs ys r first none = grind (arith, first)

pub invariant_of-self : goal.invariant_of-self
invariant_of-self g c =
    let w = g.B.BitBlock.width in
    let number = g.B.BitBlock.number in
    let is_block = g.B.BitBlock.is_block in
    let it = c.self.inside in
    let xs = it.blocks.now in
    let start = it.pending.index + w in
    let end = it.pending.end in
    let none = ap (λ v. v.summary_left) c.self.view_is ∙ c.requires.summary in
    let past : end ≤ start = let enough = blocks_for-enough w (end - start) g.met.B.BitBlock.width_law.positive in let zero = ap (λ n. n * w) none in omega (arith, enough, zero) in
    let empty = stored_ended w number is_block start end xs it.pending.summary.left c.self.invariant.stored past in
    record {
      hand = c.self.invariant.hand;
      stored = subst (IsStoredFrom w number is_block start end xs)
          (empty ∙ sym (none_past_end it.pending.summary.left c.next-end.new.self.left c.next-end.result c.next-end.ensures.steps.item empty)) c.self.invariant.stored;
    }

pub returns : goal.returns
returns g c =
    let is = c.self.view_is in
    let pulls = ap (λ v. v.pulls) is in
    let summary_pulls = ap (λ v. v.summary_pulls) is in
    record {
      blocks = ap (λ v. v.blocks) is;
      left = ap (λ v. v.left) is ∙ c.requires.left;
      pulls = omega (arith, c.tick.ensures, pulls);
      summary_pulls = omega (arith, c.next-end.ensures.steps.counted, summary_pulls);
      summary_left = ap (λ v. v.summary_left) is ∙ c.requires.summary;
    }
