use Rattle.std.proofs.{Common.{Some, false, get_or, map, not, sym, ap, arith}, lemmas.List.get_or_past}
use Rattle.bit_blocks.{specs.Storage.value_at, proofs.{CompareLemmas.value_in_view, SearchLemmas.{finds_from_same, zero_within}, VectorLemmas.length_from_view}}
use Rattle.bit_words.proofs.bit_vec.BitVec.first_zero_from.Goals as goal

pub returns-then-n-self-clause-first : goal.returns-then-n-self-clause-first
returns-then-n-self-clause-first g c =
    let long = length_from_view _ _ _ _ _ c.self.view_is in
    record {
      passes = ap not (get_or_past c.args.self.now.values c.args.n false (omega (arith, long, c.if-n-self.true)));
      reached = omega arith;
      between = λ j from before. absurd (omega (arith, from, before));
    }

pub returns-clause-first : goal.returns-clause-first
returns-clause-first g c =
    let ms = map g.B.BitBlock.number c.self.inside.blocks.items in
    finds_from_same (λ i. not (value_at g.B.BitBlock.width ms i)) (λ i. not (get_or c.args.self.now.values i false)) _ (Some c.first_zero.result)
    (λ i. ap not (sym (value_in_view _ _ _ ms _ c.self.view_is c.self.invariant.packed.tail i)))
    (rw c.deref.ensures.value at c.first_zero.ensures)

pub returns-clause-within : goal.returns-clause-within
returns-clause-within g c =
    let long = length_from_view _ _ _ _ _ c.self.view_is in
    let within = zero_within _ _ c.self.inside.len _ _ c.self.invariant.packed.tail (omega (arith, c.if-n-self.false)) (rw c.deref.ensures.value at c.first_zero.ensures) in
    omega (arith, within, long)
