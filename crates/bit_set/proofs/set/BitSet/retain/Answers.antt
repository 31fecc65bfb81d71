use Rattle.std.proofs.Common.{◌≡◌, ℕ, ◌+◌, ◌-◌, ◌*◌, ◌/◌, ◌^◌, ◌<◌, ◌≤◌, ◌==◌, min, false, nat_le, get_or, length, refl, ap, ap₂, ◌∙◌, arith, subst}
use Rattle.std.proofs.{Math.Nat.{div-add-mod'}, lemmas.{Bool.Decides.nat_tests, Fn.filter_same}}
use Rattle.bit_blocks.{proofs.BitsLemmas.{blocks_of-digit, read_back}, specs.{Bits.blocks_of, Digits.is_one}}
use Rattle.bit_words.specs.Kept.{KeepsInBlock}
use Rattle.set_algebra.{specs.Sets.{elements, has}, proofs.MemberLemmas.none_from_members}
use Rattle.bit_set.{specs.{Changes.Changes, Retained.{HasTested, ones}}, proofs.set.BitSet.retain.Given.Over}
use Rattle.bit_set.proofs.RetainLemmas.{asked_each, below_by_members, filtered-le, has-block, next_at_block, retained-block, tested-all, tested-none}
use Rattle.set_algebra.proofs.{SetLemmas.{IsAscending-elements, has-filter}, SplitLemmas.all_from, ValueLemmas.has-within}
use Rattle.bit_set.proofs.set.BitSet.retain.Goals.{After-block_or_zero-block}
use Rattle.bit_set.proofs.set.BitSet.retain.Goals as goal

-- the block of the next member
digits : (g : Over) (c : After-block_or_zero-block g) → (j : ℕ) → j < g.B.BitBlock.width
    → is_one (g.B.BitBlock.number c.block_or_zero-block.result) j ≡ get_or c.loop-value.self.values (c.in-Some.value / c.bits.result * g.B.BitBlock.width + j) false
digits g c j within =
    let k = c.in-Some.value / c.bits.result in
    let values : c.self.inside.bits.values ≡ c.loop-value.self.values = ap (λ bits. bits.values) c.self.view_is in
    ap (λ m. is_one m j) (c.block_or_zero-block.ensures.of_number ∙ ap (λ ms. get_or ms k 0) (c.storage.ensures.numbers ∙ ap (blocks_of g.B.BitBlock.width) values))
    ∙ ap (λ d. d == 1) (blocks_of-digit g.B.BitBlock.width k j c.loop-value.self.values within)
    ∙ read_back (get_or c.loop-value.self.values (k * g.B.BitBlock.width + j) false)

-- no member is past what a `usize` counts
fits : (g : Over) (c : After-block_or_zero-block g) → length c.loop-value.self.values ≤ 2 ^ 64 - 1
fits g c = omega (arith, c.storage.ensures.fits.holds_values, c.storage.ensures.fits.fits, ap (λ bits. length bits.values) c.self.view_is)

pub loop-value-init : goal.loop-value-init
loop-value-init g c =
    let values = c.args.self.now.values in
    record {
      callable = c.requires;
      tested = subst (HasTested _ c.args.keep (elements values) c.args.keep (elements values)) (all_from values) (tested-none _ c.args.keep (elements values));
      long = refl;
      capacity = refl;
      at_block = λ small i from. omega arith;
    }

pub kept_ones-kept-requires-clause-fits : goal.kept_ones-kept-requires-clause-fits
kept_ones-kept-requires-clause-fits g c =
    let w = g.B.BitBlock.width in
    let k = c.in-Some.value / c.bits.result in
    let m = g.B.BitBlock.number c.block_or_zero-block.result in
    let values = c.loop-value.self.values in
    let at = goal.at.kept_ones-kept-requires-clause-fits g c in
    let most : length values ≤ 2 ^ 64 - 1 = fits g at.After-block_or_zero-block in
    rw c.bits-in-Some.ensures (below_by_members (2 ^ 64) (ones w (k * w) m) (λ n is.
    let member = has-block w k m values (digits g at.After-block_or_zero-block) n in
    let within = has-within values n (grind (arith, nat_tests, member, is)) in
    omega (arith, within, most)))

pub loop-value-preserved : goal.loop-value-preserved
loop-value-preserved g c =
    let w = g.B.BitBlock.width in
    let pos = g.met.B.BitBlock.width_law.positive in
    let number = g.B.BitBlock.number in
    let value = c.in-Some.value in
    let k = value / c.bits.result in
    let from = c.loop-value.from in
    let next = c.saturating_add-from.result in
    let values = c.loop-value.self.values in
    let left = c.keep_in_block.new.self.values in
    let before = c.loop-value.invariant in
    let at = goal.at.loop-value-preserved g c in
    let found = c.in-Some.ensures.members in
    let block : k ≡ value / w = ap (λ n. value / n) c.bits.ensures in
    let begins : k * w ≤ value = omega (arith, ap (λ q. q * w) block, div-add-mod' value w) in
    let on : from ≤ k * w = omega (arith, ap (λ q. q * w) block, before.at_block (omega (arith, found.reached, c.in-Some.ensures.within)) value found.reached) in
    let to : next ≡ min (k * w + w) (2 ^ 64 - 1) = c.saturating_add-from.ensures ∙ ap₂ (λ a b. min (k * a + b) (2 ^ 64 - 1)) c.bits-in-Some.ensures c.bits-in-Some-2.ensures in
    let keeps : KeepsInBlock w k (number c.kept_ones-kept.result) values left = rw c.self.view_is at c.keep_in_block.ensures.values in
    record {
      callable = c.kept_ones-kept.ensures.callable;
      tested = retained-block _ w k (number c.block_or_zero-block.result) (number c.kept_ones-kept.result) from next values left c.args.keep
          (elements c.args.self.now.values) c.loop-value.keep c.kept_ones-kept.new.keep pos (digits g at.After-block_or_zero-block) on to (fits g at.After-block_or_zero-block)
          (λ i reached below. found.between i reached (omega (arith, begins, below))) before.tested (rw c.bits-in-Some.ensures at c.kept_ones-kept.ensures.tested) keeps;
      long = keeps.len ∙ before.long;
      capacity = c.keep_in_block.ensures.capacity ∙ ap (λ bits. bits.capacity) c.self.view_is ∙ before.capacity;
      at_block = next_at_block w k next pos to;
    }

pub returns-clause-elements : goal.returns-clause-elements
returns-clause-elements g c =
    tested-all _ c.args.keep (elements c.args.self.now.values) c.loop-value.keep (elements c.loop-value.self.values) _ c.loop-value.invariant.tested
    (none_from_members _ (λ n. let member = has-filter (λ y. nat_le c.loop-value.from y) (elements c.loop-value.self.values) n in
    let none = c.in_default.ensures.members n in grind (arith, nat_tests, member, none)))

pub returns-clause-members : goal.returns-clause-members
returns-clause-members g c test each n =
    let old = elements c.args.self.now.values in
    let kept = filter_same _ test c.args.keep (λ x b next. each x b next) old _ (returns-clause-elements g c) in
    ap (λ s. has s n) kept ∙ has-filter test old n

pub returns-clause-asked : goal.returns-clause-asked
returns-clause-asked g c stays =
    asked_each _ c.args.keep (λ x b next met. stays (x, tt) b next met) (elements c.args.self.now.values) _ (IsAscending-elements c.args.self.now.values)
    (returns-clause-elements g c)

pub returns-clause-count : goal.returns-clause-count
returns-clause-count g c = filtered-le _ c.args.keep _ _ (returns-clause-elements g c)

pub returns-clause-changes : goal.returns-clause-changes
unfolding Changes
returns-clause-changes g c = let kept = returns-clause-elements g c in (kept.0, (kept.4, refl))
