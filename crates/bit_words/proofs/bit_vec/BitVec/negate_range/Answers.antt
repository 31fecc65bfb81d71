use Rattle.std.proofs.Common.{◌≡◌, ◌∙◌, Bool, true, not, refl, sym, ap, arith}
use Rattle.bit_blocks.{specs.{declared.block.merge.Merge.TheVariants.Symmetric, Merges.merge_of_values, Ranges.changed_in_range}, proofs.VectorLemmas.length_from_view}
use Rattle.bit_blocks.proofs.RangeLemmas.{changed-none, values_of-changed}
use Rattle.bit_words.proofs.{SameCapacity.same_capacity, SummarySpanLemmas.{end_in_blocks, span_packed}}
use Rattle.bit_words.proofs.StartLemmas.{false_before_none}
use Rattle.bit_words.proofs.bit_vec.BitVec.negate_range.Goals as goal

pub negate_span-requires : goal.negate_span-requires
negate_span-requires g c = record {
  some = c.if-range.true;
  within = end_in_blocks _ _ c.self.inside.len _ _ c.self.inside.blocks g.met.B.BitBlock.width_law.positive
      (omega (arith, length_from_view _ _ _ _ _ c.self.view_is, c.requires c.if-range.true)) c.self.invariant.packed;
  each = c.self.invariant.packed.each;
  summary = c.self.invariant.summary;
}

pub invariant_of-self : goal.invariant_of-self
invariant_of-self g c = record {
  packed = span_packed _ _ _ _ _ _ _ c.self.inside.blocks c.negate_span.new.blocks
      (omega (arith, length_from_view _ _ _ _ _ c.self.view_is, c.requires c.if-range.true)) c.self.invariant.packed c.negate_span.ensures.span c.negate_span.ensures.in_place;
  summary = c.negate_span.ensures.summary;
  start = λ _. false_before_none _ _;
}

turned : (x : Bool) → merge_of_values Symmetric x true ≡ not x
turned x = grind arith

pub returns-then-range-clause-values : goal.returns-then-range-clause-values
returns-then-range-clause-values g c =
    values_of-changed _ not _ _ _ _ _ _ turned (omega (arith, length_from_view _ _ _ _ _ c.self.view_is, c.requires c.if-range.true)) c.negate_span.ensures.span
    ∙ ap (λ v. changed_in_range not c.args.range.start c.args.range.end v.values) c.self.view_is

pub returns-then-range-clause-capacity : goal.returns-then-range-clause-capacity
returns-then-range-clause-capacity g c = same_capacity _ _ _ _ _ _ c.negate_span.ensures.in_place.capacity c.negate_span.ensures.capacity (ap (λ v. v.capacity) c.self.view_is)

pub returns-else-range : goal.returns-else-range
returns-else-range g c = record { values = sym (changed-none not c.args.range.start c.args.range.end c.args.self.now.values c.if-range.false); capacity = refl }
