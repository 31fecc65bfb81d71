use Rattle.std.proofs.{Common.{length, map, sym, ◌∙◌, arith, ⊎_elim}, lemmas.{Bool.{cases_lt}, List.{get_or_past, length-map}}}
use Rattle.bit_blocks.proofs.BlockMergeLemmas.{same_numbers}
use Rattle.bit_blocks.proofs.packed.comparing.same_blocks.Goals as goal

pub returns-then-a-b : goal.returns-then-a-b
returns-then-a-b g c =
    let f = g.B.BitBlock.number in
    let xs = c.args.a.now in
    let ys = c.args.b.now in
    let both = same_numbers g.B.BitBlock.width f g.B.BitBlock.is_block 0 (length xs) xs ys (λ x block. (g.met.B.BitBlock.number_law x block).0) c.requires.left c.requires.right in (
      λ is k.
          ⊎_elim
          (λ below. both.0 (c.same_of_one_length.ensures.0 is) k (omega arith) below)
          (λ past. get_or_past (map f xs) k 0 (omega (arith, past, length-map xs f)) ∙ sym (get_or_past (map f ys) k 0 (omega (arith, past, length-map ys f))))
          (cases_lt k (length xs)),
      λ all. c.same_of_one_length.ensures.1 (both.1 (λ k _ _. all k)),
    )
