use Rattle.std.proofs.{Common.{◌≡◌, ◌+◌, ◌^◌, ◌<◌, ◌++◌, ◌∙◌, length, vec_capacity, replicate, ap, ap₂, arith}, lemmas.Result.err_from_is_err_and}
use Rattle.bit_blocks.{specs.Bits.capacity_of, proofs.StorageLemmas.values_of-append}
use Rattle.bit_words.{specs.Summary.shared_capacity, proofs.{CapacityLemmas.stored_from_shared, GrowthLemmas.{Grows-blocks, Grows-kept}}}
use Rattle.bit_blocks.proofs.{BitsLemmas.blocks_for-le, VectorLemmas.length_from_view}
use Rattle.bit_words.proofs.{GrownSummary.{IsGrown, grown_after, grown_before, grown_last}, StartLemmas.grown_start}
use Rattle.bit_words.proofs.bit_vec.BitVec.grow_blocks.Goals as goal

pub overflow_add-len : goal.overflow_add-len
overflow_add-len g c = record { fits = omega (arith, length_from_view _ _ _ _ _ c.self.view_is, c.requires) }

pub returns-in_err-reserve_shared-clause-grows : goal.returns-in_err-reserve_shared-clause-grows
returns-in_err-reserve_shared-clause-grows g c =
    let p = err_from_is_err_and c.from_residual.result c.from_residual.ensures.1 in
    rw (p.1, p.2) (Grows-kept _ _ _ _ _ _ _ _ _ _ _ _ _ _ _ g.met.B.BitBlock.width_law.positive c.self.invariant (omega arith) (omega arith) c.self.view_is
    (omega (arith, c.requires)) c.block_count-count.ensures (omega (arith, length_from_view _ _ _ _ _ c.self.view_is)) c.reserve_shared.ensures.items c.in_err-reserve_shared.ensures.capacity.reserves)

pub append_to_summary-requires : goal.append_to_summary-requires
append_to_summary-requires g c =
    let w = g.B.BitBlock.width in
    let pos = g.met.B.BitBlock.width_law.positive in
    let own = c.self.invariant.packed in
    let new = c.append_bits.ensures.packed in
    let law : (x : g.row.B.Denot) → g.B.BitBlock.is_block x → g.B.BitBlock.number x < 2 ^ w = λ x is. (g.met.B.BitBlock.number_law x is).0 in
    let grown : IsGrown w c.self.inside.len (c.self.inside.len + c.args.n) c.args.bit g.B.BitBlock.number g.B.BitBlock.is_block c.self.inside.blocks.items c.append_bits.new.blocks.items = record {
      own = own;
      new = new;
      kept = rw c.reserve_shared.ensures.items at c.append_bits.ensures.kept;
      added = c.append_bits.ensures.added;
    } in
    let items = ap length c.reserve_shared.ensures.items in
    let same : length c.self.inside.blocks.items ≡ c.len-old.result = omega (arith, c.deref.ensures.len, items) in
    let old : length c.deref.result.now ≡ c.len-old.result = omega (arith, c.deref.ensures.len) in
    let count : length c.append_bits.new.blocks.items ≡ c.block_count-count.result = omega (arith, new.count) in
    let stored = rw (c.deref.ensures.value, c.reserve_shared.ensures.items, ← count) at c.store_summary.ensures.long in
    rw c.deref-2.ensures.value (record {
      none = rw count c.store_summary.ensures.short;
      packed = rw (← old, count) (λ many. (c.store_summary.ensures.long many).packed);
      blocks = new.each;
      longer = omega (arith, blocks_for-le w c.self.inside.len (c.self.inside.len + c.args.n) pos (omega arith), items, new.count, own.count);
      capacity = rw count (omega (arith, stored_from_shared w _ _ _ pos c.in_ok-reserve_shared.ensures.capacity.reserves.ok));
      before = λ many k below. (stored many).digit k ∙ grown_before _ _ _ _ _ _ _ _ pos law grown k (omega (arith, below, same));
      last = λ many none k _. (stored many).digit k ∙ grown_last _ _ _ _ _ _ _ _ pos law grown none k;
      after = λ k from inside. grown_after _ _ _ _ _ _ _ _ pos law grown k (omega (arith, from, same)) inside;
    })

pub returns : goal.returns
returns g c =
    let w = g.B.BitBlock.width in
    let kept : shared_capacity w (vec_capacity c.append_bits.new.blocks) (vec_capacity c.append_to_summary.new.summary) ≡ shared_capacity w (vec_capacity c.reserve_shared.new.blocks)
    (vec_capacity c.reserve_shared.new.summary) = ap₂ (shared_capacity w) c.append_bits.ensures.capacity (c.append_to_summary.ensures.capacity ∙ c.store_summary.ensures.capacity) in
    record {
      ok =
          values_of-append _ _ _ _ _ _ (rw c.reserve_shared.ensures.items at c.append_bits.ensures.kept) c.append_bits.ensures.added
          ∙ ap (λ v. v.values ++ replicate c.args.n c.args.bit) c.self.view_is;
      grows =
          Grows-blocks _ _ _ _ _ _ _ _ _ _ _ _ _ _ _ g.met.B.BitBlock.width_law.positive c.self.invariant (omega arith) (omega arith) c.self.view_is
          (omega (arith, c.requires)) c.block_count-count.ensures (omega (arith, length_from_view _ _ _ _ _ c.self.view_is))
          (ap (capacity_of w) kept) tt c.in_ok-reserve_shared.ensures.capacity.reserves;
    }

pub invariant_of-self : goal.invariant_of-self
invariant_of-self g c = rw (c.reserve_shared.ensures.items, c.reserve_shared.ensures.summary) c.self.invariant

pub store_summary-requires : goal.store_summary-requires
store_summary-requires g c = record {
  keeps = rw (c.deref.ensures.value, c.reserve_shared.ensures.items, c.reserve_shared.ensures.summary) c.self.invariant.summary;
  blocks = rw (c.deref.ensures.value, c.reserve_shared.ensures.items) c.self.invariant.packed.each;
  longer =
      let le = blocks_for-le g.B.BitBlock.width c.self.inside.len (c.self.inside.len + c.args.n) g.met.B.BitBlock.width_law.positive (omega arith) in
      rw (c.deref.ensures.value, c.reserve_shared.ensures.items) (omega (arith, c.self.invariant.packed.count));
  capacity = stored_from_shared _ _ _ _ g.met.B.BitBlock.width_law.positive c.in_ok-reserve_shared.ensures.capacity.reserves.ok;
}

pub append_bits-requires-clause-packed : goal.append_bits-requires-clause-packed
append_bits-requires-clause-packed g c = rw c.reserve_shared.ensures.items c.self.invariant.packed

pub append_bits-requires-clause-capacity : goal.append_bits-requires-clause-capacity
append_bits-requires-clause-capacity g c = omega (arith, c.in_ok-reserve_shared.ensures.capacity.reserves.ok, c.block_count-count.ensures)

pub invariant_of-self-2 : goal.invariant_of-self-2
invariant_of-self-2 g c =
    let items = ap length c.reserve_shared.ensures.items in
    record {
      packed = c.append_bits.ensures.packed;
      summary = rw c.deref-2.ensures.value at c.append_to_summary.ensures.summary;
      start = λ _.
          grown_start _ _ _ _ _ _ _ c.start_after_growth-self-inside.ensures.stays
          (rw c.reserve_shared.ensures.items at c.append_bits.ensures.kept) c.append_bits.ensures.added c.append_bits.ensures.packed.tail
          (λ many. c.self.invariant.start (omega (arith, many, c.deref.ensures.len, items)));
    }
