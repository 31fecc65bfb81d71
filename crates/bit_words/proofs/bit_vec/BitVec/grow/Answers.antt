use Rattle.std.proofs.Common.{◌+◌, vec_capacity, ◌++◌, replicate, refl, sym, ap, ◌∙◌, arith}
use Rattle.bit_blocks.proofs.{StorageLemmas.values_of-append, VectorLemmas.length_from_view}
use Rattle.bit_words.proofs.{GrowthLemmas.{Grows-blocks, Reserves-within}, SummaryLemmas.stored_within}
use Rattle.bit_words.proofs.bit_vec.BitVec.grow.Goals as goal

pub overflow_add-len : goal.overflow_add-len
overflow_add-len g c = record { fits = omega (arith, length_from_view _ _ _ _ _ c.self.view_is, c.requires) }

pub invariant_of-self : goal.invariant_of-self
invariant_of-self g c =
    let len = length_from_view _ _ _ _ _ c.self.view_is in
    record {
      packed = record {
        each = c.self.invariant.packed.each;
        count = omega arith;
        tail = record { zero_tail = λ i past. c.self.invariant.packed.tail.zero_tail i (omega arith) };
        fits = omega (arith, len);
      };
      summary = c.self.invariant.summary;
      start = c.self.invariant.start;
    }

pub returns-then-block_count-len : goal.returns-then-block_count-len
returns-then-block_count-len g c =
    let enough = stored_within g.B.BitBlock.width _ (vec_capacity c.self.inside.blocks) (vec_capacity c.self.inside.summary) _ _ _ _ g.met.B.BitBlock.width_law.positive c.self.invariant
    (omega arith) (omega arith) in
    record {
      ok =
          values_of-append _ _ _ _ _ c.args.bit (λ i _. refl) (λ i past _. c.self.invariant.packed.tail.zero_tail i past ∙ sym c.if-not-bit.true)
          ∙ ap (λ v. v.values ++ replicate c.args.n c.args.bit) c.self.view_is;
      grows =
          Grows-blocks _ _ (c.self.inside.len + c.args.n) _ _ _ _ _ _ _ _ _ _ _ _ g.met.B.BitBlock.width_law.positive c.self.invariant (omega arith) (omega arith) c.self.view_is
          (omega (arith, c.requires)) refl (omega (arith, length_from_view _ _ _ _ _ c.self.view_is)) refl tt (Reserves-within _ _ (omega arith));
    }
