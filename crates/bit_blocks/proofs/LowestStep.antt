-- The steps that take the lowest 1 off a block, at the numbers of the blocks.
use Rattle.std.proofs.{Common.{◌≡◌, ℕ, ◌+◌, ◌-◌, ◌^◌, ◌<◌, count_ones, sym, ap, ◌∙◌, subst, arith}, lemmas.Nat.pow_pos}
use Rattle.bit_blocks.{specs.{Digits.IsBoth, Lowest.{IsLowest, IsCleared, IsIsolated}}, proofs.LowestLemmas.lowest_found}

pub isolated : (w m n l : ℕ) → 0 < m → m < 2 ^ w → l < 2 ^ w → n ≡ 2 ^ w - m → IsBoth w m n l → IsIsolated w m l
isolated w m n l pos small fits is both =
    let found = lowest_found w m pos small in
    let i : ℕ = found.0 in
    let l_is : l ≡ 2 ^ i = found.1.isolated l fits (subst (λ x. IsBoth w m x l) is both) in
    let index : (o : ℕ) → o + 1 ≡ l → count_ones o ≡ i = λ o next. ap count_ones (let e : o ≡ 2 ^ i - 1 = omega arith in e) ∙ found.1.counted in
    record {
      some = omega (arith, l_is, pow_pos i);
      within = λ o next. let e = index o next in omega (arith, e, found.1.within);
      lowest = λ o next. subst (IsLowest m) (sym (index o next)) found.1.lowest;
      cleared = λ o r next rest. subst (λ x. IsCleared w m x r) (sym (index o next)) (found.1.rest r rest);
    }
