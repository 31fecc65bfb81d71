use Rattle.std.proofs.Common.{◌≡◌, ℕ, ◌+◌, ◌*◌, ◌^◌, ◌<◌, ◌∙◌, false, not, ◌&&◌, get_or, map, sym, ap, arith}
use Rattle.bit_blocks.specs.{BlockMerges.HasMerged, Digits.is_one}
use Rattle.bit_blocks.proofs.{Masks.is_one-zero, VectorLemmas.numbers_below}
use Rattle.bit_words.proofs.TouchedLemmas.{united_use}
use Rattle.bit_words.proofs.summary.merges.unite_whole.{Given.Over, Goals.After-merge_between}
use Rattle.bit_words.proofs.summary.merges.unite_whole.Goals as goal

-- where the blocks of the chunk begin
begin : (q bits w : ℕ) → bits ≡ w → q * bits ≡ q * w
begin q bits w e = ap (λ x. q * x) e

-- the chunk
merged : (g : Over) (c : After-merge_between g)
    → HasMerged g.O.Operation.merge g.B.BitBlock.width g.B.BitBlock.number g.B.BitBlock.is_block
    (c.args.q * g.B.BitBlock.width) ((c.args.q + 1) * g.B.BitBlock.width)
    (g.S.Others.digit c.args.others) c.args.blocks.now c.merge_between.new.blocks
merged g c =
    let w = g.B.BitBlock.width in
    let at : c.args.q * c.bits.result ≡ c.args.q * w = begin c.args.q _ _ c.bits.ensures in
    let end : c.args.q * c.bits.result + c.bits-2.result ≡ (c.args.q + 1) * w = omega (arith, at, c.bits-2.ensures) in
    rw (end, at) at c.merge_between.ensures.has

pub returns-then-is_nonzero-clause-has : goal.returns-then-is_nonzero-clause-has
returns-then-is_nonzero-clause-has g c = merged g (goal.at.returns-then-is_nonzero-clause-has g c).After-merge_between

pub returns-else-is_nonzero-clause-has : goal.returns-else-is_nonzero-clause-has
returns-else-is_nonzero-clause-has g c = merged g (goal.at.returns-else-is_nonzero-clause-has g c).After-merge_between

pub returns-then-is_nonzero-clause-digits : goal.returns-then-is_nonzero-clause-digits
returns-then-is_nonzero-clause-digits g c = rw (begin c.args.q _ _ c.bits.ensures) at c.used_from.ensures.digits

pub returns-else-is_nonzero-clause-digits : goal.returns-else-is_nonzero-clause-digits
returns-else-is_nonzero-clause-digits g c = λ p index.
    let w = g.B.BitBlock.width in
    let f = g.B.BitBlock.number in
    let k = c.args.q * w + p in
    let all = merged g (goal.at.returns-else-is_nonzero-clause-digits g c).After-merge_between in
    let is = rw c.requires.union at all in
    let small : get_or (map f c.args.blocks.now) k 0 < 2 ^ w = numbers_below w f g.B.BitBlock.is_block c.args.blocks.now (λ x h. (g.met.B.BitBlock.number_law x h).0) c.requires.can.each k in
    let also : get_or (map f c.merge_between.new.blocks) k 0 < 2 ^ w = numbers_below w f g.B.BitBlock.is_block c.merge_between.new.blocks (λ x h. (g.met.B.BitBlock.number_law x h).0) is.each k in
    let left : f c.of_blocks.result ≡ 0 = grind (arith, c.is_nonzero.ensures, c.if-is_nonzero.false) in
    let none : ((is_one (f c.used_at-other.result) p && not (is_one (f c.args.own) p)) && is_one (f c.unsure_at.result) p) ≡ false =
    ap (λ b. b && is_one (f c.unsure_at.result) p) (sym (c.of_blocks-taken.ensures.digits p index)) ∙ sym (c.of_blocks.ensures.digits p index) ∙ ap (λ n. is_one n p) left ∙ is_one-zero p in
    c.of_blocks-else-is_nonzero.ensures.digits p index
    ∙ united_use w _ _ _ _ _ (g.S.Others.digit c.args.others k) small also
    (λ j digit. is.digit k j (omega arith) (omega (arith, index)) digit)
    (c.requires.says p index)
    (λ lacks j. c.used_at-other.ensures.zeros k j (sym (c.used_at-other.ensures.digits p index) ∙ lacks))
    (λ certain all. c.used_at-other.ensures.digits p index ∙ c.unsure_at.ensures.sure p index certain all)
    none
