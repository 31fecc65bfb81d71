use Rattle.std.{proofs.Common.{◌≡◌, ℕ, ◌≤◌, ◌+◌, ◌*◌, ◌/◌, ◌%◌, ◌<◌, ◌∙◌, ◌==◌, true, List, not, sym, ap, ap₂, length, vec_capacity, set, Some, arith, mod-lt, div-add-mod'}}
use Rattle.bit_blocks.{specs.{Bits.capacity_of, Storage.{value_at, is_used}}, proofs.BitsLemmas.blocks_for-above}
use Rattle.bit_words.{specs.Summary.{shared_capacity, short_count}, proofs.StartLemmas.false_before_written}
use Rattle.bit_blocks.proofs.{PackedLemmas.replaced_packed, StorageLemmas.values_of-set, UseLemmas.used_from_true, VectorLemmas.{length_from_view, slice_get-values_of}}
use Rattle.bit_words.proofs.{SummaryLemmas.{changed_summary, keeps_all, keeps_none}, bit_vec.BitVec.replace.Given.Over}
use Rattle.bit_words.proofs.bit_vec.BitVec.replace.Goals.{After-self, Else-is_short}
use Rattle.bit_words.proofs.bit_vec.BitVec.replace.Goals as goal

-- a block with a value that is true is not 0
used_at : (w : ℕ) (ms : List ℕ) (i k : ℕ) → 0 < w → k ≡ i / w → value_at w ms i ≡ true → is_used ms k ≡ true
used_at w ms i k pos e is = used_from_true w ms k (i % w) (mod-lt i pos) (ap (λ q. value_at w ms (q * w + i % w)) e ∙ ap (value_at w ms) (div-add-mod' i w) ∙ is)

in_list : (g : Over) (c : After-self g) → c.args.i < c.self.inside.len
in_list g c = rw (length_from_view _ _ _ _ _ c.self.view_is) at c.requires

-- the index is in one of the blocks
in_blocks : (g : Over) (c : After-self g) → c.args.i / g.B.BitBlock.width < length c.self.inside.blocks.items
in_blocks g c =
    let above = blocks_for-above g.B.BitBlock.width c.self.inside.len c.args.i g.met.B.BitBlock.width_law.positive (in_list g c) in
    omega (arith, above, c.self.invariant.packed.count)

-- where the list is not short a summary is stored
many : (g : Over) (c : Else-is_short g) → short_count g.B.BitBlock.width < length c.self.inside.blocks.items
many g c =
    let long = c.is_short.ensures.long c.if-is_short.false in
    omega (arith, long)

-- and the block is in one of its blocks
in_chunks : (g : Over) (c : Else-is_short g) → c.args.i / g.B.BitBlock.width < length c.self.inside.blocks.items
    → c.args.i / g.B.BitBlock.width / g.B.BitBlock.width < length c.self.inside.summary.items
in_chunks g c inside =
    let above = blocks_for-above g.B.BitBlock.width (length c.self.inside.blocks.items) (c.args.i / g.B.BitBlock.width) g.met.B.BitBlock.width_law.positive inside in
    omega (arith, above, (c.self.invariant.summary.long (many g c)).packed.count)

pub replace_bit-requires : goal.replace_bit-requires
replace_bit-requires g c = record {
  in_bounds = let inside = in_blocks g (goal.at.replace_bit-requires g c).After-self in omega (arith, inside);
  each = c.self.invariant.packed.each;
}

pub invariant_of-self : goal.invariant_of-self
invariant_of-self g c =
    let short = c.is_short.ensures.short c.if-is_short.true in
    let few : length c.self.inside.blocks.items ≤ short_count g.B.BitBlock.width = omega arith in
    let value = c.replace_bit.ensures.value in
    let in_place = c.replace_bit.ensures.in_place in
    record {
      packed = replaced_packed g.B.BitBlock.width c.self.inside.len c.args.i g.B.BitBlock.number g.B.BitBlock.is_block c.self.inside.blocks c.replace_bit.new.blocks _
          (in_list g (goal.at.invariant_of-self g c).After-self) c.self.invariant.packed value in_place;
      summary = keeps_none _ _ _ _ _ (omega arith) (c.self.invariant.summary.short few);
      start = λ many. absurd (omega (arith, many, few, in_place.len));
    }

pub returns-then-is_short : goal.returns-then-is_short
returns-then-is_short g c =
    let w = g.B.BitBlock.width in
    let within = in_list g (goal.at.returns-then-is_short g c).After-self in
    let value = c.replace_bit.ensures.value in
    record {
      was = rw (← c.self.view_is) (slice_get-values_of _ _ _ _ within ∙ ap Some (sym c.replace_bit.ensures.was));
      values = values_of-set _ _ _ _ _ _ within value.same value.others ∙ ap (λ v. set v.values c.args.i c.args.bit) c.self.view_is;
      capacity = ap (λ n. capacity_of w (shared_capacity w n (vec_capacity c.self.inside.summary))) c.replace_bit.ensures.in_place.capacity ∙ ap (λ v. v.capacity) c.self.view_is;
    }

pub block_at-current-requires : goal.block_at-current-requires
block_at-current-requires g c =
    let at = goal.at.block_at-current-requires g c in
    let long = many g at.Else-is_short in
    rw c.deref.ensures.value (record {
      in_bounds = rw (c.block_index-chunk.ensures, c.block_index-k.ensures) (in_chunks g at.Else-is_short (in_blocks g at.After-self));
      each = (c.self.invariant.summary.long long).packed.each;
    })

pub exchange_bit-was-requires : goal.exchange_bit-was-requires
exchange_bit-was-requires g c = record {
  in_bounds = let inside = in_blocks g (goal.at.exchange_bit-was-requires g c).After-self in omega (arith, inside);
  each = c.self.invariant.packed.each;
}

pub update_summary_bit-requires : goal.update_summary_bit-requires
update_summary_bit-requires g c =
    let at = goal.at.update_summary_bit-requires g c in
    let inside = in_chunks g at.Else-is_short (in_blocks g at.After-self) in
    let number = rw (← c.block_index-k.ensures) at c.exchange_bit-was.ensures.of_number in
    record {
      in_summary = rw c.block_index-k.ensures (omega (arith, inside));
      each = (c.self.invariant.summary.long (many g at.Else-is_short)).packed.each;
      of_current = c.block_at-current.ensures.of_block;
      read = rw (← c.block_index-chunk.ensures) (rw c.deref.ensures.value at c.block_at-current.ensures.of_number);
      of_block = c.exchange_bit-was.ensures.of_block;
      nonzero = λ one.
          ap (λ m. not (m == 0)) number
          ∙ used_at g.B.BitBlock.width _ c.args.i c.block_index-k.result g.met.B.BitBlock.width_law.positive c.block_index-k.ensures (c.exchange_bit-was.ensures.value.same ∙ one);
    }

pub invariant_of-self-2 : goal.invariant_of-self-2
invariant_of-self-2 g c =
    let w = g.B.BitBlock.width in
    let at = goal.at.invariant_of-self-2 g c in
    let inside = in_blocks g at.After-self in
    let number = rw (← c.block_index-k.ensures) at c.exchange_bit-was.ensures.of_number in
    let long = many g at.Else-is_short in
    let was = c.exchange_bit-was.ensures in
    record {
      packed = replaced_packed w c.self.inside.len c.args.i g.B.BitBlock.number g.B.BitBlock.is_block c.self.inside.blocks c.exchange_bit-was.new.blocks _
          (in_list g at.After-self) c.self.invariant.packed was.value was.in_place;
      summary = keeps_all _ _ _ _ _ (omega arith) (
          changed_summary w c.args.i c.block_index-k.result _ _ g.B.BitBlock.number g.B.BitBlock.is_block
          c.self.inside.blocks c.exchange_bit-was.new.blocks c.self.inside.summary c.update_summary_bit.new.summary
          g.met.B.BitBlock.width_law.positive (λ x is. (g.met.B.BitBlock.number_law x is).0)
          c.self.invariant.packed.each c.block_index-k.ensures (omega (arith, inside)) was.value was.in_place (c.self.invariant.summary.long long)
          (ap (λ m. not (m == 0)) number) c.update_summary_bit.ensures.value c.update_summary_bit.ensures.in_place);
      start = λ _.
          let chunk = rw c.block_index-k.ensures at c.block_index-chunk.ensures in
          false_before_written _ _ _ _ _ _ _ _ chunk was.value c.follow_one.ensures.back c.follow_one.ensures.reached (c.self.invariant.start long);
    }

pub returns : goal.returns
returns g c =
    let w = g.B.BitBlock.width in
    let within = in_list g (goal.at.returns g c).After-self in
    let was = c.exchange_bit-was.ensures in
    record {
      was = rw (← c.self.view_is) (slice_get-values_of _ _ _ _ within ∙ ap Some (sym was.was));
      values = values_of-set _ _ _ _ _ _ within was.value.same was.value.others ∙ ap (λ v. set v.values c.args.i c.args.bit) c.self.view_is;
      capacity = ap₂ (λ n m. capacity_of w (shared_capacity w n m)) was.in_place.capacity c.update_summary_bit.ensures.in_place.capacity ∙ ap (λ v. v.capacity) c.self.view_is;
    }
