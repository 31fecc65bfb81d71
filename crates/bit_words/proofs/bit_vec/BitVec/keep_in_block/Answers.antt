use Rattle.std.proofs.{lemmas.List.length-map, Common.{◌<◌, length, map, refl, ap, arith}}
use Rattle.bit_words.{specs.Summary.short_count, proofs.SummarySpanLemmas.in_chunks}
use Rattle.bit_blocks.proofs.VectorLemmas.{length_from_view}
use Rattle.bit_words.proofs.{KeepLemmas.{KeptBlock, block_inside, kept_block, kept_packed, kept_summary, kept_values}, SameCapacity.same_capacity, SummaryLemmas.{keeps_all, keeps_none}}
use Rattle.bit_words.proofs.bit_vec.BitVec.keep_in_block.{Given.Over, Goals.{After-put_block, After-self, Else-is_short}}
use Rattle.bit_words.proofs.{KeepLemmas.kept_less, StartLemmas.false_before_less}
use Rattle.bit_words.proofs.bit_vec.BitVec.keep_in_block.Goals as goal

-- there is such a block
inside : (g : Over) (c : After-self g) → c.args.k < length c.self.inside.blocks.items
inside g c =
    block_inside g.B.BitBlock.width c.args.k c.self.inside.len g.B.BitBlock.number g.B.BitBlock.is_block c.self.inside.blocks.items g.met.B.BitBlock.width_law.positive c.self.invariant.packed
    (rw (length_from_view _ _ _ _ _ c.self.view_is) at c.requires.within)

-- what became of it
kept : (g : Over) (c : After-put_block g) → c.args.k < length c.self.inside.blocks.items
    → KeptBlock g.B.BitBlock.width c.args.k (g.B.BitBlock.number c.args.kept) (map g.B.BitBlock.number c.self.inside.blocks.items) (map g.B.BitBlock.number c.put_block.new.blocks.items)
kept g c within =
    kept_block _ _ _ _ _ _ _ (rw length-map within) (rw c.deref.ensures.value at c.block_at.ensures.of_number) c.block_and-block.ensures.of_digits c.put_block.ensures.numbers

many : (g : Over) (c : Else-is_short g) → short_count g.B.BitBlock.width < length c.self.inside.blocks.items
many g c = let long = c.is_short.ensures.long c.if-is_short.false in omega (arith, long, c.put_block.ensures.in_place.len)

pub block_at-requires-clause-in_bounds : goal.block_at-requires-clause-in_bounds
block_at-requires-clause-in_bounds g c = rw c.deref.ensures.value (inside g (goal.at.block_at-requires-clause-in_bounds g c).After-self)

pub block_at-requires-clause-each : goal.block_at-requires-clause-each
block_at-requires-clause-each g c = rw c.deref.ensures.value c.self.invariant.packed.each

pub block_and-block-requires : goal.block_and-block-requires
block_and-block-requires g c = record { left = c.block_at.ensures.of_block; right = c.requires.of_block }

pub put_block-requires-clause-each : goal.put_block-requires-clause-each
put_block-requires-clause-each g c = c.self.invariant.packed.each

pub put_block-requires-clause-of_block : goal.put_block-requires-clause-of_block
put_block-requires-clause-of_block g c = c.block_and-block.ensures.of_block

pub put_block-requires-clause-in_bounds : goal.put_block-requires-clause-in_bounds
put_block-requires-clause-in_bounds g c = let here = inside g (goal.at.put_block-requires-clause-in_bounds g c).After-self in omega (arith, here)

pub invariant_of-self : goal.invariant_of-self
invariant_of-self g c =
    let at = goal.at.invariant_of-self g c in
    let short = c.is_short.ensures.short c.if-is_short.true in
    record {
      packed = kept_packed _ _ _ _ _ _ c.self.inside.blocks c.put_block.new.blocks g.met.B.BitBlock.width_law.positive c.self.invariant.packed
          (kept g at.After-put_block (inside g at.After-self)) c.put_block.ensures.in_place;
      summary = keeps_none _ _ _ _ _ (omega (arith, short)) (c.self.invariant.summary.short (omega (arith, short, c.put_block.ensures.in_place.len)));
      start = λ many. absurd (omega (arith, many, short));
    }

pub returns-then-is_short-clause-values : goal.returns-then-is_short-clause-values
returns-then-is_short-clause-values g c =
    kept_values _ _ _ _ _ _ _ _ g.met.B.BitBlock.width_law.positive c.self.view_is c.self.invariant.packed.tail
    (kept g (goal.at.returns-then-is_short-clause-values g c).After-put_block (inside g (goal.at.returns-then-is_short-clause-values g c).After-self))

pub returns-then-is_short-clause-capacity : goal.returns-then-is_short-clause-capacity
returns-then-is_short-clause-capacity g c = same_capacity _ _ _ _ _ _ c.put_block.ensures.in_place.capacity refl (ap (λ v. v.capacity) c.self.view_is)

pub update_summary_at-requires : goal.update_summary_at-requires
update_summary_at-requires g c = record {
  in_bounds =
      let here = inside g (goal.at.update_summary_at-requires g c).After-self in
      rw c.deref-2.ensures.value (omega (arith, here, c.put_block.ensures.in_place.len));
  in_summary =
      let at = goal.at.update_summary_at-requires g c in
      let there = in_chunks g.B.BitBlock.width c.args.k g.B.BitBlock.number g.B.BitBlock.is_block c.self.inside.blocks.items c.self.inside.summary.items g.met.B.BitBlock.width_law.positive
      (c.self.invariant.summary.long (many g at.Else-is_short)) (inside g at.After-self) in
      omega (arith, there);
  each = (c.self.invariant.summary.long (many g (goal.at.update_summary_at-requires g c).Else-is_short)).packed.each;
  blocks = rw c.deref-2.ensures.value c.put_block.ensures.in_place.each;
}

pub invariant_of-self-2 : goal.invariant_of-self-2
invariant_of-self-2 g c =
    let at = goal.at.invariant_of-self-2 g c in
    let long = many g at.Else-is_short in
    let here = inside g at.After-self in
    record {
      packed = kept_packed _ _ _ _ _ _ c.self.inside.blocks c.put_block.new.blocks g.met.B.BitBlock.width_law.positive c.self.invariant.packed
          (kept g at.After-put_block (inside g at.After-self)) c.put_block.ensures.in_place;
      summary = keeps_all _ _ _ _ _ (omega (arith, long, c.put_block.ensures.in_place.len)) (
          kept_summary g.B.BitBlock.width c.args.k _ g.B.BitBlock.number g.B.BitBlock.is_block c.self.inside.blocks
          c.put_block.new.blocks c.self.inside.summary c.update_summary_at.new.summary
          (omega (arith, here, c.put_block.ensures.in_place.len)) c.put_block.ensures.numbers
          c.put_block.ensures.in_place (c.self.invariant.summary.long long) (rw c.deref-2.ensures.value at c.update_summary_at.ensures.value) c.update_summary_at.ensures.in_place);
      start = λ _. false_before_less _ _ _ _ (kept_less _ _ _ _ _ g.met.B.BitBlock.width_law.positive (kept g at.After-put_block (inside g at.After-self))) (c.self.invariant.start long);
    }

pub returns-clause-values : goal.returns-clause-values
returns-clause-values g c =
    kept_values _ _ _ _ _ _ _ _ g.met.B.BitBlock.width_law.positive c.self.view_is c.self.invariant.packed.tail
    (kept g (goal.at.returns-clause-values g c).After-put_block (inside g (goal.at.returns-clause-values g c).After-self))

pub returns-clause-capacity : goal.returns-clause-capacity
returns-clause-capacity g c = same_capacity _ _ _ _ _ _ c.put_block.ensures.in_place.capacity c.update_summary_at.ensures.in_place.capacity (ap (λ v. v.capacity) c.self.view_is)
