use Rattle.std.proofs.Common.{◌≡◌, ℕ, ◌+◌, ◌-◌, get_or, length, map, sym, ap, ◌∙◌, arith}
use Rattle.bit_blocks.{specs.Digits.{is_one}, proofs.ZeroLemmas.{dropped}}
use Rattle.bit_blocks.proofs.packed.comparing.same_last_group.Goals as goal

pub returns : goal.returns
returns g c =
    let f = g.B.BitBlock.number in
    let xs = c.args.a.now in
    let ys = c.args.b.now in
    let start = length xs - 32 in
    let left = λ (q : ℕ). ap (λ zs. get_or (map f zs) q 0) c.split_at.ensures.back ∙ dropped f start q xs in
    let right = λ (q : ℕ). ap (λ zs. get_or (map f zs) q 0) c.split_at-2.ensures.back ∙ dropped f start q ys in (
      λ is. record {
        digit = λ k j from below index.
            let at : start + (k - start) ≡ k = omega (arith, from) in
            ap (λ q. is_one (get_or (map f xs) q 0) j) (sym at)
            ∙ ap (λ m. is_one m j) (sym (left (k - start)))
            ∙ (c.are_others.ensures.0 is).digit (k - start) j (omega arith) (omega (arith, below, from)) index
            ∙ ap (λ m. is_one m j) (right (k - start))
            ∙ ap (λ q. is_one (get_or (map f ys) q 0) j) at;
      },
      λ all. c.are_others.ensures.1 (record {
        digit = λ k j from below index. ap (λ m. is_one m j) (left k) ∙ all.digit (start + k) j (omega arith) (omega (arith, below)) index ∙ ap (λ m. is_one m j) (sym (right k));
      }),
    )
