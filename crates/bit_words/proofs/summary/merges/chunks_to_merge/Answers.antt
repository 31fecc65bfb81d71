use Rattle.std.proofs.Common.{◌≡◌, ◌*◌, ◌∙◌, false, true, get_or, map, length, sym, ap, arith}
use Rattle.bit_blocks.{specs.{Bits.blocks_for, Digits.is_one, Merges.merge_of_values}, proofs.{BitsLemmas.{blocks_for-enough, blocks_for-le}, BlockMergeLemmas.stay_none, MergeLemmas.merge_of_values-none}}
use Rattle.bit_words.proofs.MergedOnesLemmas.{with_false}
use Rattle.bit_words.proofs.summary.merges.chunks_to_merge.Goals as goal

pub returns-then-keeps_first-clause-rest : goal.returns-then-keeps_first-clause-rest
returns-then-keeps_first-clause-rest g c = record {
  digit = λ k j beyond below index.
      let w = g.B.BitBlock.width in
      let reach : c.block_count.result * w ≡ blocks_for w c.len.result * w = ap (λ n. n * w) c.block_count.ensures in
      let a = is_one (get_or (map g.B.BitBlock.number c.args.blocks.now) k 0) j in
      sym (ap (merge_of_values g.O.Operation.merge a)
      (c.len.ensures.past k j (omega (arith, blocks_for-enough w c.len.result g.met.B.BitBlock.width_law.positive, beyond, reach)))
      ∙ with_false (λ x. merge_of_values g.O.Operation.merge x false) true a (merge_of_values-none g.O.Operation.merge) (sym c.keeps_first.ensures ∙ c.if-keeps_first.true));
}

pub returns-else-keeps_first-clause-rest : goal.returns-else-keeps_first-clause-rest
returns-else-keeps_first-clause-rest g c =
    let w = g.B.BitBlock.width in
    let reach : length c.args.summary.now * w ≡ blocks_for w (length c.args.blocks.now) * w = ap (λ n. n * w) c.requires.summary.packed.count in
    stay_none _ _ _ _ _ _ _ (omega (arith, blocks_for-enough w (length c.args.blocks.now) g.met.B.BitBlock.width_law.positive, reach))

pub returns-then-keeps_first-clause-within : goal.returns-then-keeps_first-clause-within
returns-then-keeps_first-clause-within g c =
    let le = blocks_for-le g.B.BitBlock.width c.len.result (length c.args.blocks.now) g.met.B.BitBlock.width_law.positive (omega (arith, c.len.ensures.value, c.requires.can.fewer)) in
    omega (arith, le, c.block_count.ensures, c.requires.summary.packed.count)

pub returns-else-keeps_first-clause-enough : goal.returns-else-keeps_first-clause-enough
returns-else-keeps_first-clause-enough g c =
    let le = blocks_for-le g.B.BitBlock.width (g.S.Others.count c.args.others) (length c.args.blocks.now) g.met.B.BitBlock.width_law.positive c.requires.can.fewer in
    omega (arith, le, c.requires.summary.packed.count)
