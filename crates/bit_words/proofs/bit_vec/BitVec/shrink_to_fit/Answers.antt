use Rattle.std.proofs.Common.{◌≡◌, ◌≤◌, ◌*◌, ◌^◌, ◌-◌, ℕ, ◌∙◌, length, vec_capacity, min, refl, ap, arith}
use Rattle.bit_blocks.{specs.Bits.{blocks_for, capacity_of}, proofs.VectorLemmas.{length_from_view, capacity_from_view}}
use Rattle.bit_words.{specs.Summary.shared_capacity, proofs.{CapacityLemmas.{shared_enough, shared_le, capacity_le}, SummaryLemmas.{none_stored, stored_length}}}
use Rattle.bit_words.proofs.bit_vec.BitVec.shrink_to_fit.{Given.Over, Goals.{After-shrink_shared_capacity, After-saturating_mul}}
use Rattle.bit_words.proofs.bit_vec.BitVec.shrink_to_fit.Goals as goal

-- the capacity of the blocks of the list
own_capacity : (g : Over) (c : After-saturating_mul g) → c.saturating_mul.result ≡ capacity_of g.B.BitBlock.width (blocks_for g.B.BitBlock.width c.self.inside.len)
own_capacity g c =
    let count = blocks_for g.B.BitBlock.width c.self.inside.len in
    let len : c.len.result ≡ count = omega (arith, ap length c.shrink_shared_capacity.ensures.items, c.self.invariant.packed.count) in
    c.saturating_mul.ensures ∙ ap (λ n. min (n * c.bits.result) (2 ^ 64 - 1)) len ∙ ap (λ n. min (count * n) (2 ^ 64 - 1)) c.bits.ensures

lowered : (g : Over) (c : After-shrink_shared_capacity g)
    → capacity_of g.B.BitBlock.width (shared_capacity g.B.BitBlock.width (vec_capacity c.shrink_shared_capacity.new.blocks)
    (vec_capacity c.shrink_shared_capacity.new.summary)) ≤ c.args.self.now.capacity
lowered g c = rw (capacity_from_view _ _ _ c.self.view_is)
    (capacity_le g.B.BitBlock.width _ _ (shared_le g.B.BitBlock.width _ _ _ _ c.shrink_shared_capacity.ensures.capacity c.shrink_shared_capacity.ensures.summary_capacity))

pub invariant_of-self : goal.invariant_of-self
invariant_of-self g c = rw (c.shrink_shared_capacity.ensures.items, c.shrink_shared_capacity.ensures.summary) c.self.invariant

pub invariant_of-self-2 : goal.invariant_of-self-2
invariant_of-self-2 g c = rw (c.shrink_shared_capacity.ensures.items, c.shrink_shared_capacity.ensures.summary) c.self.invariant

pub invariant_of-self-then-capacity-saturating_mul : goal.invariant_of-self-then-capacity-saturating_mul
invariant_of-self-then-capacity-saturating_mul g c = rw (c.shrink_shared_capacity.ensures.items, c.shrink_shared_capacity.ensures.summary) c.self.invariant

pub returns : goal.returns
returns g c =
    let at = goal.at.returns g c in
    let w = g.B.BitBlock.width in
    let shrunk = c.shrink_shared_capacity in
    let count = blocks_for w c.self.inside.len in
    let shared : ℕ = shared_capacity w (vec_capacity shrunk.new.blocks) (vec_capacity shrunk.new.summary) in
    let enough : length c.self.inside.blocks.items ≤ shared = shared_enough w (vec_capacity shrunk.new.blocks) (vec_capacity shrunk.new.summary)
    (length c.self.inside.blocks.items) g.met.B.BitBlock.width_law.positive shrunk.ensures.holds
    (omega (arith, shrunk.ensures.holds_summary, stored_length _ _ _ _ _ c.self.invariant.summary)) in
    let least = capacity_le w count shared (omega (arith, enough, c.self.invariant.packed.count)) in
    record {
      values = rw shrunk.ensures.items (ap (λ v. v.values) c.self.view_is);
      ok = rw (length_from_view _ _ _ _ _ c.self.view_is)
          (let same : capacity_of w shared ≡ capacity_of w count = omega (arith, own_capacity g at.After-saturating_mul, least, c.capacity.ensures.value) in same);
      err = tt;
      capacity = lowered g at.After-shrink_shared_capacity;
      fits = c.capacity.ensures.fits;
      empty = λ _. refl;
    }

pub returns-then-capacity-saturating_mul : goal.returns-then-capacity-saturating_mul
returns-then-capacity-saturating_mul g c =
    let at = goal.at.returns-then-capacity-saturating_mul g c in
    let w = g.B.BitBlock.width in
    let most = own_capacity g at.After-saturating_mul in
    record {
      values = rw c.shrink_shared_capacity.ensures.items (ap (λ v. v.values) c.self.view_is);
      ok = tt;
      err = rw (length_from_view _ _ _ _ _ c.self.view_is) (omega (arith, most, c.capacity.ensures.value));
      capacity = lowered g at.After-shrink_shared_capacity;
      fits = c.capacity.ensures.fits;
      empty = λ none.
          let none_left = c.shrink_shared_capacity.ensures.empty (none_stored _ _ _ _ _ _ _ _ g.met.B.BitBlock.width_law.positive c.self.invariant c.self.view_is none).0 in
          let capacity : c.capacity.result ≡ capacity_of w 0 = c.capacity.ensures.value
          ∙ ap (capacity_of w)
          (let shared : shared_capacity w (vec_capacity c.shrink_shared_capacity.new.blocks) (vec_capacity c.shrink_shared_capacity.new.summary) ≡ 0 = omega (arith, none_left) in shared) in
          absurd (omega (arith, capacity));
    }
