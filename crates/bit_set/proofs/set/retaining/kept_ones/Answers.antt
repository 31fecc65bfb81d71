use Rattle.std.proofs.Common.{◌≡◌, ◌<◌, ◌+◌, ◌^◌, All, [], ◌∷◌, arith, refl, length, ap, ◌∙◌, sym, subst, of_calls, Bool, true, false, not}
use Rattle.std.proofs.lemmas.{Bool.{false≢true}, List.Elements.{All-head, All-tail}}
use Rattle.bit_set.{specs.Retained.{HasTested, ones}, proofs.set.retaining.kept_ones.Goals.After-take_lowest_one-bit}
use Rattle.bit_set.proofs.{IndexLemmas.{AscendsFrom-indexes, indexes-lowest, indexes-none}, RetainLemmas.{ones-cleared, positive, tested-more, tested-none}, set.retaining.kept_ones.Given.Over}
use Rattle.bit_set.proofs.set.retaining.kept_ones.Goals as goal

pub loop-rest-init : goal.loop-rest-init
loop-rest-init g c = record { callable = c.requires.callable; of_rest = c.requires.of_block; of_kept = c.requires.of_block; tested = tested-none _ c.args.keep.now _; fits = c.requires.fits }

pub take_lowest_one-bit-requires-clause-of_block : goal.take_lowest_one-bit-requires-clause-of_block
take_lowest_one-bit-requires-clause-of_block g c = c.loop-rest.invariant.of_rest

pub take_lowest_one-bit-requires-clause-not_zero : goal.take_lowest_one-bit-requires-clause-not_zero
take_lowest_one-bit-requires-clause-not_zero g c =
    positive (g.B.BitBlock.number c.loop-rest.rest) (λ none.
    sym (c.ne.ensures ∙ ap not ((g.met.B.BitBlock.eq_law c.loop-rest.rest c.zero.result c.loop-rest.invariant.of_rest c.zero.ensures.of_block).1 (none ∙ sym c.zero.ensures.of_number)))
    ∙ c.loop-rest-test.true)

-- the next one is the first of those that are left
next : (g : Over) (c : After-take_lowest_one-bit g) →
    let w = g.B.BitBlock.width in
    ones w c.args.index (g.B.BitBlock.number c.loop-rest.rest) ≡ (c.args.index + c.take_lowest_one-bit.result) ∷ ones w c.args.index (g.B.BitBlock.number c.take_lowest_one-bit.new.block)
next g c =
    let taken = c.take_lowest_one-bit.ensures in
    indexes-lowest g.B.BitBlock.width c.args.index _ _ _ [] taken.lowest taken.within taken.cleared

pub overflow_add-index : goal.overflow_add-index
overflow_add-index g c =
    let first = All-head (λ n. n < 2 ^ 64) _ _ (subst (All (λ n. n < 2 ^ 64)) (next g (goal.at.overflow_add-index g c).After-take_lowest_one-bit) c.loop-rest.invariant.fits) in
    omega (arith, first)

pub loop-rest-smaller-then-not-keep : goal.loop-rest-smaller-then-not-keep
loop-rest-smaller-then-not-keep g c = let e = ap length (next g (goal.at.loop-rest-smaller-then-not-keep g c).After-take_lowest_one-bit) in omega (arith, e)

pub loop-rest-smaller : goal.loop-rest-smaller
loop-rest-smaller g c = let e = ap length (next g (goal.at.loop-rest-smaller g c).After-take_lowest_one-bit) in omega (arith, e)

pub loop-rest-preserved-then-not-keep : goal.loop-rest-preserved-then-not-keep
loop-rest-preserved-then-not-keep g c =
    let w = g.B.BitBlock.width in
    let number = g.B.BitBlock.number in
    let before = c.loop-rest.invariant in
    let first = next g (goal.at.loop-rest-preserved-then-not-keep g c).After-take_lowest_one-bit in
    let set = c.with_bit-kept.ensures in
    let less = ones-cleared w c.args.index (number c.loop-rest.kept) (number c.with_bit-kept.result) c.take_lowest_one-bit.result c.take_lowest_one-bit.ensures.within set.same set.others in
    record {
      callable = search (of_calls, before.callable, c.keep.ensures);
      of_rest = c.take_lowest_one-bit.ensures.of_block;
      of_kept = set.of_block;
      tested = tested-more _ c.args.index c.args.keep.now (ones w c.args.index (number c.args.block)) c.loop-rest.keep
          (ones w c.args.index (number c.loop-rest.kept)) (c.args.index + c.take_lowest_one-bit.result) (ones w c.args.index (number c.take_lowest_one-bit.new.block))
          (ones w c.args.index (number c.loop-rest.rest)) c.keep.result c.keep.new.self (ones w c.args.index (number c.with_bit-kept.result))
          (AscendsFrom-indexes w c.args.index (number c.args.block) []) before.tested first c.keep.ensures (less ∙ grind (arith, c.if-not-keep.true));
      fits = All-tail (λ n. n < 2 ^ 64) _ _ (subst (All (λ n. n < 2 ^ 64)) first before.fits);
    }

pub loop-rest-preserved : goal.loop-rest-preserved
loop-rest-preserved g c =
    let w = g.B.BitBlock.width in
    let number = g.B.BitBlock.number in
    let before = c.loop-rest.invariant in
    let first = next g (goal.at.loop-rest-preserved g c).After-take_lowest_one-bit in
    record {
      callable = search (of_calls, before.callable, c.keep.ensures);
      of_rest = c.take_lowest_one-bit.ensures.of_block;
      of_kept = before.of_kept;
      tested = tested-more _ c.args.index c.args.keep.now (ones w c.args.index (number c.args.block)) c.loop-rest.keep
          (ones w c.args.index (number c.loop-rest.kept)) (c.args.index + c.take_lowest_one-bit.result) (ones w c.args.index (number c.take_lowest_one-bit.new.block))
          (ones w c.args.index (number c.loop-rest.rest)) c.keep.result c.keep.new.self (ones w c.args.index (number c.loop-rest.kept))
          (AscendsFrom-indexes w c.args.index (number c.args.block) []) before.tested first c.keep.ensures (grind (arith, c.if-not-keep.false));
      fits = All-tail (λ n. n < 2 ^ 64) _ _ (subst (All (λ n. n < 2 ^ 64)) first before.fits);
    }

pub returns-clause-tested : goal.returns-clause-tested
returns-clause-tested g c =
    let same : g.B.PartialEq.eq c.loop-rest.rest c.zero.result ≡ true = opposite _ (sym c.ne.ensures ∙ c.loop-rest-test.false) in
    let none = (g.met.B.BitBlock.eq_law c.loop-rest.rest c.zero.result c.loop-rest.invariant.of_rest c.zero.ensures.of_block).0 same ∙ c.zero.ensures.of_number in
    subst (HasTested _ c.args.keep.now (ones g.B.BitBlock.width c.args.index (g.B.BitBlock.number c.args.block)) c.loop-rest.keep
    (ones g.B.BitBlock.width c.args.index (g.B.BitBlock.number c.loop-rest.kept))) (indexes-none g.B.BitBlock.width c.args.index _ none) c.loop-rest.invariant.tested
  where
    opposite : (b : Bool) → not b ≡ false → b ≡ true
    opposite true is = refl
    opposite false is = absurd (false≢true (sym is))
