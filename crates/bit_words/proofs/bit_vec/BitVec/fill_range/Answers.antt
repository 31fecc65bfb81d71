use Rattle.std.proofs.Common.{◌≡◌, ℕ, List, ◌∙◌, Bool, true, false, refl, sym, ap, arith}
use Rattle.bit_blocks.specs.{declared.block.merge.Merge.TheVariants.{Difference, Union}, BlockMerges.IsMergedSpan, Merges.merge_of_values, Ranges.changed_in_range, Storage.value_at}
use Rattle.bit_blocks.proofs.{VectorLemmas.length_from_view, RangeLemmas.{changed-none, values_of-changed}}
use Rattle.bit_words.proofs.{SameCapacity.same_capacity, SummarySpanLemmas.{end_in_blocks, span_packed}}
use Rattle.bit_words.proofs.StartLemmas.{false_before_less, false_before_none}
use Rattle.bit_words.proofs.bit_vec.BitVec.fill_range.Goals as goal

set : (b x : Bool) → b ≡ true → merge_of_values Union x true ≡ b
set b x is = grind arith

cleared : (b x : Bool) → b ≡ false → merge_of_values Difference x true ≡ b
cleared b x is = grind arith

-- what is cleared makes no value true
less : (w a b : ℕ) (ms ns : List ℕ) → IsMergedSpan Difference w a b ms ns → (i : ℕ) → value_at w ms i ≡ false → value_at w ns i ≡ false
less w a b ms ns span i none = grind (arith, span.inside i, span.before i, span.after i, cleared false (value_at w ms i))

pub fill_span-requires : goal.fill_span-requires
fill_span-requires g c = record {
  some = c.if-range.false;
  within = end_in_blocks _ _ c.self.inside.len _ _ c.self.inside.blocks g.met.B.BitBlock.width_law.positive
      (omega (arith, length_from_view _ _ _ _ _ c.self.view_is, c.requires c.if-range.false)) c.self.invariant.packed;
  each = c.self.invariant.packed.each;
  keeps = refl;
  fills = λ x. set true x refl;
  summary = c.self.invariant.summary;
}

pub fill_span-requires-else-bit : goal.fill_span-requires-else-bit
fill_span-requires-else-bit g c = record {
  some = c.if-range.false;
  within = end_in_blocks _ _ c.self.inside.len _ _ c.self.inside.blocks g.met.B.BitBlock.width_law.positive
      (omega (arith, length_from_view _ _ _ _ _ c.self.view_is, c.requires c.if-range.false)) c.self.invariant.packed;
  each = c.self.invariant.packed.each;
  keeps = refl;
  fills = λ x. cleared false x refl;
  summary = c.self.invariant.summary;
}

pub invariant_of-self : goal.invariant_of-self
invariant_of-self g c = record {
  packed = span_packed _ _ _ _ _ _ _ c.self.inside.blocks c.fill_span.new.blocks
      (omega (arith, length_from_view _ _ _ _ _ c.self.view_is, c.requires c.if-range.false)) c.self.invariant.packed c.fill_span.ensures.span c.fill_span.ensures.in_place;
  summary = c.fill_span.ensures.summary;
  start = λ _. false_before_none _ _;
}

pub invariant_of-self-else-bit : goal.invariant_of-self-else-bit
invariant_of-self-else-bit g c = record {
  packed = span_packed _ _ _ _ _ _ _ c.self.inside.blocks c.fill_span-else-bit.new.blocks
      (omega (arith, length_from_view _ _ _ _ _ c.self.view_is, c.requires c.if-range.false)) c.self.invariant.packed c.fill_span-else-bit.ensures.span c.fill_span-else-bit.ensures.in_place;
  summary = c.fill_span-else-bit.ensures.summary;
  start = λ many. false_before_less _ _ _ _ (less _ _ _ _ _ c.fill_span-else-bit.ensures.span) (c.self.invariant.start (omega (arith, many, c.fill_span-else-bit.ensures.in_place.len)));
}

pub returns-then-bit-clause-values : goal.returns-then-bit-clause-values
returns-then-bit-clause-values g c =
    values_of-changed _ (λ _. c.args.bit) _ _ _ _ _ _ (λ x. set c.args.bit x c.if-bit.true)
    (omega (arith, length_from_view _ _ _ _ _ c.self.view_is, c.requires c.if-range.false)) c.fill_span.ensures.span
    ∙ ap (λ v. changed_in_range (λ _. c.args.bit) c.args.range.start c.args.range.end v.values) c.self.view_is

pub returns-else-bit-clause-values : goal.returns-else-bit-clause-values
returns-else-bit-clause-values g c =
    values_of-changed _ (λ _. c.args.bit) _ _ _ _ _ _ (λ x. cleared c.args.bit x c.if-bit.false)
    (omega (arith, length_from_view _ _ _ _ _ c.self.view_is, c.requires c.if-range.false)) c.fill_span-else-bit.ensures.span
    ∙ ap (λ v. changed_in_range (λ _. c.args.bit) c.args.range.start c.args.range.end v.values) c.self.view_is

pub returns-then-range : goal.returns-then-range
returns-then-range g c = record { values = sym (changed-none (λ _. c.args.bit) c.args.range.start c.args.range.end c.args.self.now.values c.if-range.true); capacity = refl }

pub returns-then-bit-clause-capacity : goal.returns-then-bit-clause-capacity
returns-then-bit-clause-capacity g c = same_capacity _ _ _ _ _ _ c.fill_span.ensures.in_place.capacity c.fill_span.ensures.capacity (ap (λ v. v.capacity) c.self.view_is)

pub returns-else-bit-clause-capacity : goal.returns-else-bit-clause-capacity
returns-else-bit-clause-capacity g c = same_capacity _ _ _ _ _ _ c.fill_span-else-bit.ensures.in_place.capacity c.fill_span-else-bit.ensures.capacity (ap (λ v. v.capacity) c.self.view_is)
