use Rattle.std.proofs.{Common.{◌≡◌, ◌∙◌, ◌↔◌, false, not, ap, ap₂, arith}, lemmas.Bool.Decides.nat_tests}
use Rattle.bit_blocks.specs.{BlockMerges.merge_at, Digits.is_one, Merges.merge_of_values}
use Rattle.bit_blocks.proofs.BlockMergeLemmas.{same_one}
use Rattle.bit_words.proofs.summary.merges.touched.is_changed.Goals as goal

pub returns : goal.returns
returns g c =
    let f = g.B.BitBlock.number in
    let m = g.O.Operation.merge in
    let other = merge_at m f c.args.blocks.now (g.S.Others.digit c.args.others) in
    let one = same_one g.B.BitBlock.width f c.args.k (f c.block_at-block.result)
    (f c.of_blocks.result) other c.args.blocks.now c.block_at-block.ensures.of_number
    (g.met.B.BitBlock.number_law _ c.block_at-block.ensures.of_block).0
    (g.met.B.BitBlock.number_law _ c.of_blocks.ensures.of_block).0
    (λ j index. c.of_blocks.ensures.digits j index ∙ ap₂ (merge_of_values m) (ap (λ n. is_one n j) c.block_at-block.ensures.of_number) (c.block_or_zero.ensures.digits j index)) in
    let tests : (not c.same.result ≡ false) ↔ (f c.block_at-block.result ≡ f c.of_blocks.result) =
    (λ h. grind (arith, nat_tests, c.same.ensures, h), λ e. grind (arith, nat_tests, c.same.ensures, e)) in
    (λ h. one.0 (tests.0 h), λ stay. tests.1 (one.1 stay))
