use Rattle.std.proofs.{Common.{◌≡◌, ℕ, ◌<◌, ◌≤◌, ◌∙◌, false, get_or, length, map, refl, set, sym, ap, None, Some, arith}, lemmas.Bool.true≢false}
use Rattle.bit_blocks.{specs.Storage.value_at, proofs.{BitsLemmas.blocks_for-above, CompareLemmas.value_in_view, PackedLemmas.replaced_packed, SearchLemmas.{finds_from_same, value_fits}}}
use Rattle.bit_words.{specs.Summary.short_count, proofs.bit_vec.BitVec.take_first_one.{Given.Over, Goals.Else-is_short}}
use Rattle.bit_blocks.proofs.StorageLemmas.{values_of-set}
use Rattle.bit_words.proofs.{SameCapacity.same_capacity, StartLemmas.{false_before_chunk, false_before_written, first_chunk, no_chunk, true_within}, SummaryLemmas.{keeps_all, keeps_none}}
use Rattle.bit_words.proofs.bit_vec.BitVec.take_first_one.Goals as goal

-- where the list is not short a summary is stored
many : (g : Over) (c : Else-is_short g) → short_count g.B.BitBlock.width < length c.self.inside.blocks.items
many g c = let long = c.is_short.ensures.long c.if-is_short.false in omega (arith, long)

pub returns-in_err-i-clause-first : goal.returns-in_err-i-clause-first
returns-in_err-i-clause-first g c =
    let ms = map g.B.BitBlock.number c.self.inside.blocks.items in
    rw c.from_residual.ensures
    (finds_from_same (value_at g.B.BitBlock.width ms) (λ i. get_or c.args.self.now.values i false) 0 None
    (λ i. sym (value_in_view _ _ _ ms _ c.self.view_is c.self.invariant.packed.tail i))
    (rw c.deref.ensures.value at c.in_err-i.ensures))

pub returns-in_err-i-clause-values : goal.returns-in_err-i-clause-values
returns-in_err-i-clause-values g c = rw c.from_residual.ensures refl

pub returns-in_err-i-clause-capacity : goal.returns-in_err-i-clause-capacity
returns-in_err-i-clause-capacity g c = refl

pub replace_bit-was-requires-clause-each : goal.replace_bit-was-requires-clause-each
replace_bit-was-requires-clause-each g c = c.self.invariant.packed.each

pub replace_bit-was-requires-clause-in_bounds : goal.replace_bit-was-requires-clause-in_bounds
replace_bit-was-requires-clause-in_bounds g c =
    let found = rw c.deref.ensures.value at c.in_ok-i.ensures in
    let above = blocks_for-above g.B.BitBlock.width c.self.inside.len c.in_ok-i.i g.met.B.BitBlock.width_law.positive (true_within _ _ _ _ c.self.invariant.packed.tail found.passes) in
    omega (arith, above, c.self.invariant.packed.count)

pub invariant_of-self : goal.invariant_of-self
invariant_of-self g c =
    let found = rw c.deref.ensures.value at c.in_ok-i.ensures in
    let short = c.is_short.ensures.short c.if-is_short.true in
    let in_place = c.replace_bit-was.ensures.in_place in
    record {
      packed = replaced_packed g.B.BitBlock.width c.self.inside.len c.in_ok-i.i g.B.BitBlock.number g.B.BitBlock.is_block c.self.inside.blocks c.replace_bit-was.new.blocks _
          (true_within _ _ _ _ c.self.invariant.packed.tail found.passes) c.self.invariant.packed c.replace_bit-was.ensures.value in_place;
      summary = keeps_none _ _ _ _ _ (omega (arith, short, in_place.len)) (c.self.invariant.summary.short (omega (arith, short)));
      start = λ long. absurd (omega (arith, long, short, in_place.len));
    }

pub returns-then-is_short-clause-first : goal.returns-then-is_short-clause-first
returns-then-is_short-clause-first g c =
    let ms = map g.B.BitBlock.number c.self.inside.blocks.items in
    finds_from_same (value_at g.B.BitBlock.width ms) (λ i. get_or c.args.self.now.values i false) 0 (Some c.in_ok-i.i)
    (λ i. sym (value_in_view _ _ _ ms _ c.self.view_is c.self.invariant.packed.tail i)) (rw c.deref.ensures.value at c.in_ok-i.ensures)

pub returns-then-is_short-clause-values : goal.returns-then-is_short-clause-values
returns-then-is_short-clause-values g c =
    let found = rw c.deref.ensures.value at c.in_ok-i.ensures in
    let value = c.replace_bit-was.ensures.value in
    values_of-set _ _ _ _ _ _ (true_within _ _ _ _ c.self.invariant.packed.tail found.passes) value.same value.others ∙ ap (λ v. set v.values c.in_ok-i.i false) c.self.view_is

pub returns-then-is_short-clause-capacity : goal.returns-then-is_short-clause-capacity
returns-then-is_short-clause-capacity g c = same_capacity _ _ _ _ _ _ c.replace_bit-was.ensures.in_place.capacity refl (ap (λ v. v.capacity) c.self.view_is)

-- where each block of the summary from the start on is 0, no value is true
none : (g : Over) (c : Else-is_short g) → ((q : ℕ) → c.self.inside.search_start ≤ q → get_or (map g.B.BitBlock.number c.self.inside.summary.items) q 0 ≡ 0) → (i : ℕ)
    → value_at g.B.BitBlock.width (map g.B.BitBlock.number c.self.inside.blocks.items) i ≡ false
none g c zeros =
    let long = many g c in
    no_chunk g.B.BitBlock.width g.B.BitBlock.number g.B.BitBlock.is_block c.self.inside.blocks.items c.self.inside.summary.items g.met.B.BitBlock.width_law.positive
    (c.self.invariant.summary.long long) c.self.inside.search_start (λ x is. (g.met.B.BitBlock.number_law x is).0) c.self.invariant.packed.each (c.self.invariant.start long) zeros

pub invariant_of-self-in_default : goal.invariant_of-self-in_default
invariant_of-self-in_default g c = record {
  packed = c.self.invariant.packed;
  summary = c.self.invariant.summary;
  start = λ _. record { falses = λ i _. none g (goal.at.invariant_of-self-in_default g c).Else-is_short (rw c.deref-2.ensures.value at c.in_default.ensures) i };
}

pub returns-in_default-clause-first : goal.returns-in_default-clause-first
returns-in_default-clause-first g c = λ i _.
    let ms = map g.B.BitBlock.number c.self.inside.blocks.items in
    value_in_view _ _ _ ms _ c.self.view_is c.self.invariant.packed.tail i
    ∙ none g (goal.at.returns-in_default-clause-first g c).Else-is_short (rw c.deref-2.ensures.value at c.in_default.ensures) i

pub returns-in_default-clause-values : goal.returns-in_default-clause-values
returns-in_default-clause-values g c = ap (λ v. v.values) c.self.view_is

pub returns-in_default-clause-capacity : goal.returns-in_default-clause-capacity
returns-in_default-clause-capacity g c = ap (λ v. v.capacity) c.self.view_is

pub take_first_of_chunk-requires : goal.take_first_of_chunk-requires
take_first_of_chunk-requires g c =
    let long = many g (goal.at.take_first_of_chunk-requires g c).Else-is_short in
    record {
      each = c.self.invariant.packed.each;
      summary = c.self.invariant.summary.long long;
      first = first_chunk g.B.BitBlock.width g.B.BitBlock.number g.B.BitBlock.is_block c.self.inside.blocks.items c.self.inside.summary.items g.met.B.BitBlock.width_law.positive
          (c.self.invariant.summary.long long) c.self.inside.search_start _ (λ x is. (g.met.B.BitBlock.number_law x is).0) c.self.invariant.packed.each (c.self.invariant.start long)
          (rw c.deref-2.ensures.value at c.in-Some.ensures);
      fits = value_fits _ _ _ c.self.invariant.packed.tail c.self.invariant.packed.fits;
    }

pub invariant_of-self-2 : goal.invariant_of-self-2
invariant_of-self-2 g c =
    let w = g.B.BitBlock.width in
    let f = g.B.BitBlock.number in
    let long = many g (goal.at.invariant_of-self-2 g c).Else-is_short in
    let taken = c.take_first_of_chunk.ensures in
    let is = c.self.invariant.summary.long long in
    let first = first_chunk w f g.B.BitBlock.is_block c.self.inside.blocks.items c.self.inside.summary.items g.met.B.BitBlock.width_law.positive is c.self.inside.search_start _
    (λ x is. (g.met.B.BitBlock.number_law x is).0) c.self.invariant.packed.each (c.self.invariant.start long) (rw c.deref-2.ensures.value at c.in-Some.ensures) in
    record {
      packed = replaced_packed w c.self.inside.len c.take_first_of_chunk.result f g.B.BitBlock.is_block c.self.inside.blocks c.take_first_of_chunk.new.blocks _
          (true_within _ _ _ _ c.self.invariant.packed.tail taken.first.passes) c.self.invariant.packed taken.value taken.in_place;
      summary = keeps_all _ _ _ _ _ (omega (arith, long, taken.in_place.len)) taken.summary;
      start = λ _.
          false_before_written w c.take_first_of_chunk.result _ c.in-Some.chunk c.in-Some.chunk false (map f c.self.inside.blocks.items) _ refl taken.value (omega arith)
          (λ one. absurd (true≢false (sym one)))
          (false_before_chunk w f g.B.BitBlock.is_block c.self.inside.blocks.items c.self.inside.summary.items g.met.B.BitBlock.width_law.positive is c.in-Some.chunk first);
    }

pub returns-clause-first : goal.returns-clause-first
returns-clause-first g c =
    let ms = map g.B.BitBlock.number c.self.inside.blocks.items in
    finds_from_same (value_at g.B.BitBlock.width ms) (λ i. get_or c.args.self.now.values i false) 0 (Some c.take_first_of_chunk.result)
    (λ i. sym (value_in_view _ _ _ ms _ c.self.view_is c.self.invariant.packed.tail i)) c.take_first_of_chunk.ensures.first

pub returns-clause-values : goal.returns-clause-values
returns-clause-values g c =
    let taken = c.take_first_of_chunk.ensures in
    values_of-set _ _ _ _ _ _ (true_within _ _ _ _ c.self.invariant.packed.tail taken.first.passes) taken.value.same taken.value.others
    ∙ ap (λ v. set v.values c.take_first_of_chunk.result false) c.self.view_is

pub returns-clause-capacity : goal.returns-clause-capacity
returns-clause-capacity g c =
    let taken = c.take_first_of_chunk.ensures in
    same_capacity _ _ _ _ _ _ taken.in_place.capacity taken.capacity (ap (λ v. v.capacity) c.self.view_is)
