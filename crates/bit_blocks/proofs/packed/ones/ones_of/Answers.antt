use Rattle.std.proofs.{Common.{◌≡◌, ℕ, ◌+◌, ◌*◌, ◌/◌, count_ones, List, drop, length, take, sym, ap, ◌∙◌, arith}, lemmas.List.{take-append-drop, Sums.sum_by-append}}
use Rattle.bit_blocks.specs.Storage.{ones_in}
use Rattle.bit_blocks.proofs.packed.ones.ones_of.Goals as goal

-- the ones of a front and of what is left
parted : {X : Type 0} (number : X → ℕ) (n : ℕ) (xs rest : List X) → rest ≡ drop n xs → ones_in number (take n xs) + ones_in number rest ≡ ones_in number xs
parted number n xs rest is =
    ap (λ ys. ones_in number (take n xs) + ones_in number ys) is
    ∙ sym (sum_by-append (λ x. count_ones (number x)) (take n xs) (drop n xs))
    ∙ ap (ones_in number) (take-append-drop n xs)

pub add_ones-requires-clause-fits : goal.add_ones-requires-clause-fits
add_ones-requires-clause-fits g c =
    omega (arith, parted g.B.BitBlock.number (length c.args.blocks.now / 8 * 8) c.args.blocks.now _ c.split_at.ensures.back, c.ones_of_groups-ones.ensures, c.requires.fits)

pub returns : goal.returns
returns g c = omega (arith, parted g.B.BitBlock.number (length c.args.blocks.now / 8 * 8) c.args.blocks.now _ c.split_at.ensures.back, c.ones_of_groups-ones.ensures, c.add_ones.ensures)
