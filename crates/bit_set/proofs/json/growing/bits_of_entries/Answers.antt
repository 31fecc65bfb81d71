use Rattle.std.proofs.{Common.{◌≡◌, ◌+◌, ◌*◌, false, length, get_or, take, ap, sym, ◌∙◌, take_all, arith, refl, subst}, lemmas.{List.{length-replicate, Elements.All-get_or}, Bool.true≢false}}
use Rattle.std.{specs.Int.bit_at}
use Rattle.bit_blocks.specs.Digits.{is_one}
use Rattle.bit_set.specs.Entries.{numbers_of, IsEntry}
use Rattle.bit_set.proofs.{JsonLemmas.{below_of_entries, counted, number_at}, FilledLemmas.{blocks_of_filled, zero_tail_from, filled_more, filled_none, next_is_false}}
use Rattle.bit_set.proofs.{FilledLemmas.{one_is_within, block_begins}, json.growing.bits_of_entries.Goals.After-block_of}
use Rattle.bit_set.proofs.json.growing.bits_of_entries.Goals as goal

-- the number of the entry in hand, and where its block begins
entry : (g : _) (c : After-block_of g) → (g.B.BitBlock.number c.block_of.result ≡ get_or (numbers_of c.args.entries.now) c.loop-k.k 0) × (c.loop-k.k * c.bits.result ≡ c.loop-k.k * g.B.BitBlock.width)
entry g c = (number_at c.args.entries.now c.loop-k.k _ _ c.loop-k-test.true c.index-entries-k.is c.block_of.ensures.of_number, ap (λ x. c.loop-k.k * x) c.bits.ensures)

pub loop-k-init : goal.loop-k-init
loop-k-init g c =
    rw c.in_ok-bits.ensures.values
    record { filled = λ i. filled_none g.B.BitBlock.width c.args.len i (numbers_of c.args.entries.now); long = length-replicate c.args.len false; capacity = c.in_ok-bits.ensures.capacity }

pub put_ones-requires : goal.put_ones-requires
put_ones-requires g c =
    let w = g.B.BitBlock.width in
    let at = entry g (goal.at.put_ones-requires g c).After-block_of in
    let invariant = c.loop-k.invariant in
    record {
      of_block = c.block_of.ensures.of_block;
      counted = omega (arith, invariant.long, c.ranges.len.fits);
      within = λ j within one.
          let zero_tail = zero_tail_from w c.args.len _ g.met.B.BitBlock.width_law.positive (counted c.args.entries.now ∙ c.requires.count) c.requires.zero_tail in
          omega (arith, one_is_within w c.args.len c.loop-k.k j _ zero_tail within (sym (ap (λ m. bit_at m j) at.0) ∙ one), at, invariant.long);
      falses = λ j within. rw at.1 (next_is_false w c.loop-k.k j (numbers_of c.args.entries.now) c.loop-k.bits.values invariant.filled within);
    }

pub loop-k-preserved : goal.loop-k-preserved
loop-k-preserved g c =
    let at = entry g (goal.at.loop-k-preserved g c).After-block_of in
    record {
      filled = filled_more g.B.BitBlock.width c.loop-k.k _ c.loop-k.bits.values _ g.met.B.BitBlock.width_law.positive c.loop-k.invariant.filled
          (λ j within. ap (λ p. get_or c.put_ones.new.bits.values (p + j) false) (sym at.1) ∙ c.put_ones.ensures.values j within ∙ ap (λ m. is_one m j) at.0)
          (λ i apart. c.put_ones.ensures.others i (λ j within is. apart j within (is ∙ ap (λ p. p + j) at.1)));
      long = c.put_ones.ensures.size.long ∙ c.loop-k.invariant.long;
      capacity = c.put_ones.ensures.size.capacity ∙ c.loop-k.invariant.capacity;
    }

pub returns : goal.returns
returns g c =
    let vs = c.args.entries.now in
    let all : take c.loop-k.k (numbers_of vs) ≡ numbers_of vs = take_all c.loop-k.k (numbers_of vs) (omega (arith, counted vs, c.loop-k-test.false)) in
    let invariant = rw all at c.loop-k.invariant in
    record {
      blocks = blocks_of_filled g.B.BitBlock.width c.args.len _ c.loop-k.bits.values g.met.B.BitBlock.width_law.positive invariant.long (counted vs ∙ c.requires.count)
          (below_of_entries _ vs c.requires.each) c.requires.zero_tail invariant.filled;
      size = record { long = invariant.long; capacity = invariant.capacity };
      empty = λ none. refl;
    }

pub overflow_mul-k : goal.overflow_mul-k
overflow_mul-k g c =
    let begins = block_begins g.B.BitBlock.width c.args.len (length c.args.entries.now) c.loop-k.k g.met.B.BitBlock.width_law.positive c.requires.count c.loop-k-test.true in
    omega (arith, begins, ap (λ x. c.loop-k.k * x) c.bits.ensures, c.ranges.len.fits)

pub block_of-requires : goal.block_of-requires
block_of-requires g c = subst (IsEntry g.B.BitBlock.width) (sym c.index-entries-k.is) (All-get_or (IsEntry g.B.BitBlock.width) c.args.entries.now c.loop-k.k _ c.loop-k-test.true c.requires.each)

pub returns-in_err-bits-clause-empty : goal.returns-in_err-bits-clause-empty
returns-in_err-bits-clause-empty g c none = absurd (true≢false (sym (c.in_err-bits.ensures.empty none)))
