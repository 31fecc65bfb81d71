use Rattle.std.proofs.{Common.{◌≡◌, ℕ, ◌+◌, ◌*◌, ◌<◌, ◌≤◌, ◌∙◌, false, map, length, sym, ap, arith}, lemmas.List.length-map}
use Rattle.bit_blocks.{specs.{Digits.is_one, Storage.is_used}, proofs.{StorageLemmas.value_at-index, UseLemmas.{used_from_true, used_past}}}
use Rattle.bit_words.proofs.{TouchedLemmas.true_unless, summary.merges.touched_at.{Given.Over, Goals.After-touched_by}}
use Rattle.bit_words.proofs.summary.merges.touched_at.Goals as goal

-- what the block of the summary says
own : (g : Over) (c : After-touched_by g) → (p : ℕ) → p < g.B.BitBlock.width
    → is_one (g.B.BitBlock.number c.block_at.result) p ≡ is_used (map g.B.BitBlock.number c.args.blocks.now) (c.args.q * g.B.BitBlock.width + p)
own g c p index =
    let w = g.B.BitBlock.width in
    ap (λ n. is_one n p) c.block_at.ensures.of_number ∙ sym (value_at-index w (map g.B.BitBlock.number c.args.summary.now) c.args.q p index) ∙ c.requires.summary.digit (c.args.q * w + p)

pub returns-clause-within : goal.returns-clause-within
returns-clause-within g c = λ p index one.
    let k = c.args.q * g.B.BitBlock.width + p in
    let says = own g (goal.at.returns-clause-within g c).After-touched_by p index in
    let late : length c.args.blocks.now ≤ k → is_used (map g.B.BitBlock.number c.args.blocks.now) k ≡ false = λ past. used_past _ k (rw length-map past) in
    grind (arith, c.touched_by.ensures.some p index one, says, late, c.used_at.ensures.digits p index, c.used_at.ensures.within k, c.requires.can.fewer)

pub returns-clause-kept : goal.returns-clause-kept
returns-clause-kept g c = λ p j index digit none.
    let w = g.B.BitBlock.width in
    let ms = map g.B.BitBlock.number c.args.blocks.now in
    let k = c.args.q * w + p in
    c.touched_by.ensures.kept p _ _ index none
    (λ one. own g (goal.at.returns-clause-kept g c).After-touched_by p index ∙ used_from_true w ms k j digit (value_at-index w ms k j digit ∙ one))
    (λ one. c.used_at.ensures.digits p index ∙ true_unless _ _ (λ lacks. c.used_at.ensures.zeros k j lacks) one)
