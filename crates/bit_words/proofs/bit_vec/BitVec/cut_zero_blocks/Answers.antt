use Rattle.std.proofs.{Common.{◌≡◌, ◌*◌, ◌^◌, ◌<◌, ◌≤◌, ◌==◌, ◌∙◌, not, map, get_or, get_or-take, sym, ap, ap₂, refl, arith, ⊎_elim}, lemmas.Bool.cases_lt}
use Rattle.bit_blocks.{specs.{Bits.{blocks_for, capacity_of, true_end}, Storage.values_of}, proofs.CompareLemmas.{true_at, value_in_view}}
use Rattle.bit_words.{specs.Summary.shared_capacity, proofs.CapacityLemmas.used_blocks-true_end}
use Rattle.bit_blocks.proofs.{StorageLemmas.length-values_of, VectorLemmas.numbers_below}
use Rattle.bit_words.proofs.CapacityLemmas.{whole_blocks-fits, whole_blocks-past, value_at-cut, zero_tail_cut, blocks_for-whole}
use Rattle.bit_words.proofs.bit_vec.BitVec.cut_zero_blocks.{Given.Over, Goals.After-used_by_summary-count}
use Rattle.bit_words.proofs.StartLemmas.{false_before_less}
use Rattle.bit_words.proofs.bit_vec.BitVec.cut_zero_blocks.Goals as goal

-- the blocks up to the last that is not 0 are those up to the last true value
used : (g : Over) (c : After-used_by_summary-count g) → blocks_for g.B.BitBlock.width (true_end c.args.self.now.values) ≡ c.used_by_summary-count.result
used g c =
    let f = g.B.BitBlock.number in
    let w = g.B.BitBlock.width in
    used_blocks-true_end w (map f c.self.inside.blocks.items) c.used_by_summary-count.result c.args.self.now.values g.met.B.BitBlock.width_law.positive
    (numbers_below w f _ _ (λ x is. (g.met.B.BitBlock.number_law x is).0) c.self.invariant.packed.each) (value_in_view _ _ _ _ _ c.self.view_is c.self.invariant.packed.tail)
    (rw c.deref.ensures.value at c.used_by_summary-count.ensures.zeros) (rw c.deref.ensures.value at c.used_by_summary-count.ensures.last)

pub used_by_summary-count-requires : goal.used_by_summary-count-requires
used_by_summary-count-requires g c = record {
  each = rw c.deref.ensures.value c.self.invariant.packed.each;
  summary = rw (c.deref.ensures.value, c.deref-2.ensures.value) c.self.invariant.summary;
}

pub returns-in_default : goal.returns-in_default
returns-in_default g c =
    let w = g.B.BitBlock.width in
    let count = c.used_by_summary-count.result in
    let over = rw c.bits.ensures at c.in_default.ensures in
    let past : 2 ^ 64 ≤ count * w = ⊎_elim (λ fits. absurd (over fits)) (λ (out : 2 ^ 64 ≤ count * w). out) (cases_lt (count * w) (2 ^ 64)) in
    record {
      true_values = λ i. (λ one. one, λ one. one);
      len = sym (whole_blocks-past w count c.args.self.now.values (used g (goal.at.returns-in_default g c).After-used_by_summary-count) past);
      capacity = refl;
    }

pub truncate_blocks-requires-clause-each : goal.truncate_blocks-requires-clause-each
truncate_blocks-requires-clause-each g c = c.self.invariant.packed.each

pub cut_summary-requires-clause-blocks : goal.cut_summary-requires-clause-blocks
cut_summary-requires-clause-blocks g c = rw c.deref-3.ensures.value c.truncate_blocks.ensures.each

pub cut_summary-requires-clause-before : goal.cut_summary-requires-clause-before
cut_summary-requires-clause-before g c = λ long k.
    let count = c.used_by_summary-count.result in
    let ms = map g.B.BitBlock.number c.self.inside.blocks.items in
    rw c.deref-3.ensures.value (λ before.
    (c.self.invariant.summary.long (omega (arith, long))).digit k
    ∙ ap (λ m. not (m == 0)) (sym (ap (λ xs. get_or xs k 0) c.truncate_blocks.ensures.numbers ∙ get_or-take count ms k 0 (omega (arith, before, c.truncate_blocks.ensures.len)))))

pub invariant_of-self : goal.invariant_of-self
invariant_of-self g c =
    let w = g.B.BitBlock.width in
    let len : c.in-Some.len ≡ c.used_by_summary-count.result * w = rw c.bits.ensures at c.in-Some.ensures.1 in
    let blocks = ap (blocks_for w) len ∙ blocks_for-whole w c.used_by_summary-count.result g.met.B.BitBlock.width_law.positive in
    record {
      packed = record {
        each = c.truncate_blocks.ensures.each;
        count = omega arith;
        tail = zero_tail_cut w c.used_by_summary-count.result
            (map g.B.BitBlock.number c.self.inside.blocks.items) _ c.in-Some.len g.met.B.BitBlock.width_law.positive len c.truncate_blocks.ensures.numbers;
        fits = omega (arith, c.in-Some.ensures);
      };
      summary = rw c.deref-3.ensures.value at c.cut_summary.ensures.summary;
      start = λ many.
          false_before_less _ _ _ _
          (λ i none. value_at-cut w c.used_by_summary-count.result
          (map g.B.BitBlock.number c.self.inside.blocks.items) _ c.truncate_blocks.ensures.numbers
          (rw c.deref.ensures.value at c.used_by_summary-count.ensures.zeros) i
          ∙ none) (c.self.invariant.start (omega (arith, many, c.truncate_blocks.ensures.len, c.used_by_summary-count.ensures)));
    }

pub returns : goal.returns
returns g c =
    let f = g.B.BitBlock.number in
    let w = g.B.BitBlock.width in
    let count = c.used_by_summary-count.result in
    let ms = map f c.self.inside.blocks.items in
    let ns = map f c.truncate_blocks.new.blocks.items in
    let n = c.in-Some.len in
    let len : n ≡ count * w = rw c.bits.ensures at c.in-Some.ensures.1 in
    let fits : count * w < 2 ^ 64 = rw c.bits.ensures at c.in-Some.ensures.0 in
    let zero_tail = zero_tail_cut w count ms ns n g.met.B.BitBlock.width_law.positive len c.truncate_blocks.ensures.numbers in
    record {
      true_values = λ i.
          let same = value_at-cut w count ms ns c.truncate_blocks.ensures.numbers (rw c.deref.ensures.value at c.used_by_summary-count.ensures.zeros) i in
          let new = true_at w n 0 ns (record { values = values_of w ns n; capacity = 0 }) refl zero_tail i in
          let old = true_at _ _ _ _ _ c.self.view_is c.self.invariant.packed.tail i in
          (λ one. old.1 (sym same ∙ new.0 one), λ one. new.1 (same ∙ old.0 one));
      len = length-values_of w _ n ∙ len ∙ sym (whole_blocks-fits w count c.args.self.now.values (used g (goal.at.returns g c).After-used_by_summary-count) fits);
      capacity = ap₂ (λ n m. capacity_of w (shared_capacity w n m)) c.truncate_blocks.ensures.capacity c.cut_summary.ensures.capacity ∙ ap (λ v. v.capacity) c.self.view_is;
    }
