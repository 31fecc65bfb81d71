use Rattle.std.proofs.{Common.{◌≡◌, ℕ, ◌<◌, get_or, length, map, sym, ◌∙◌, arith, ⊎_elim}, lemmas.{Bool.{cases_lt}, List.{get_or_past, length-map}}}
use Rattle.bit_blocks.{specs.Mismatches.{IsFirstBlockMismatch}, proofs.BlockMergeLemmas.{none_tells, same_numbers}}
use Rattle.bit_blocks.proofs.packed.comparing.same_of_one_length.Goals as goal

pub returns-then-count-lt-GROUP : goal.returns-then-count-lt-GROUP
returns-then-count-lt-GROUP g c =
    let f = g.B.BitBlock.number in
    let xs = c.args.a.now in
    let ys = c.args.b.now in
    let ms = map f xs in
    let ns = map f ys in
    let both = same_numbers g.B.BitBlock.width f g.B.BitBlock.is_block 0 (length xs) xs ys (λ x block. (g.met.B.BitBlock.number_law x block).0) c.requires.can.each c.requires.can.others in
    none_tells ((k : ℕ) → k < length xs → get_or ms k 0 ≡ get_or ns k 0) _ (IsFirstBlockMismatch ms ns) _ _
    (sym c.is_none.ensures) c.mismatch_between.ensures (λ all. both.1 (λ k _ below. all k below)) (λ k first all.
    first.here
    (⊎_elim
    (λ below. both.0 all k (omega arith) below)
    (λ past. get_or_past ms k 0 (omega (arith, past, length-map xs f)) ∙ sym (get_or_past ns k 0 (omega (arith, past, length-map ys f))))
    (cases_lt k (length xs))))
