use Rattle.std.proofs.{Common.{◌≡◌, ◌-◌, length, min, sym, ap, ◌∙◌, subst, arith}, lemmas.List.length-map}
use Rattle.bit_blocks.proofs.BitsLemmas.{length-blocks_of}
use Rattle.bit_words.specs.Nonzero.{StartsPast}
use Rattle.bit_words.proofs.bit_vec.BitVec.nonzero_past.Goals as goal

pub after-requires : goal.after-requires
after-requires g c =
    let count = sym (length-map c.storage.result.now g.B.BitBlock.number) ∙ ap length c.storage.ensures.numbers ∙ length-blocks_of g.B.BitBlock.width c.args.self.now.values in
    record { inside = omega (arith, count, c.min.ensures, c.saturating_sub-last.ensures) }

pub returns-clause-start : goal.returns-clause-start
returns-clause-start g c =
    let number = g.B.BitBlock.number in
    let count : length c.storage.result.now ≡ length c.after.result.blocks = sym (length-map c.storage.result.now number)
    ∙ ap length (c.storage.ensures.numbers ∙ sym c.after.ensures.blocks) ∙ length-map c.after.result.blocks number in
    let first : c.min.result ≡ min c.args.index (length c.after.result.blocks - 1) = omega (arith, count, c.min.ensures, c.saturating_sub-last.ensures) in
    subst (λ k. StartsPast g.B.BitBlock.width number k c.after.result) first c.after.ensures.start
