use Rattle.std.proofs.{Common.{◌≡◌, ℕ, ◌+◌, ◌-◌, ◌*◌, ◌<◌, ◌≤◌, ◌==◌, ◌∷◌, if◌then◌else◌, None, Some, refl, sym, ap, ◌∙◌, arith, ⊎_elim, mul-le-mul_right}, lemmas.Bool.cases_lt}
use Rattle.std.proofs.lemmas.Bool.Decides.{nat_tests}
use Rattle.bit_blocks.{specs.Bits.blocks_for, proofs.Masks.is_one-bit}
use Rattle.bit_words.{specs.Pending.{IsPending, left_from, next_at}, proofs.NextAtLemmas.{next_at-lowest, next_at-zero}}
use Rattle.bit_words.proofs.PendingLemmas.{IsInHand-taken, IsInHand-zero, count_by, count_past, left-covered, left-ended, left-here, left-taken, stored_past, stored_some, zeros_passed}
use Rattle.bit_words.proofs.bit_vec.pending.Pending.next_block.{Given.Over, Goals.After-bits}
use Rattle.bit_words.proofs.bit_vec.pending.Pending.next_block.Goals as goal

some_is : {A : Type 0} {x : A} → Some x ≡ None → ⊥
some_is none = absurd (let e = none in cc)

-- where the blocks of the summary that are 0 lead
abbrev reached : (g : Over) → After-bits g → ℕ
reached g c = c.loop-self.self.index + c.pass_zero_chunks.result * c.bits.result

-- the block in hand is used up, and those that are 0 are passed
record IsPassed (g : Over) (c : After-bits g) : Type 0 where
  used_up : g.B.BitBlock.number c.loop-self.self.bits ≡ 0
  walk : IsPending g.B.BitBlock.width g.B.BitBlock.number g.B.BitBlock.is_block (reached g c) c.loop-self.self.end c.loop-self.self.bits c.args.blocks.now c.pass_zero_chunks.new.summary.left
  at : next_at g.B.BitBlock.width c.loop-self.self.index (g.B.BitBlock.number c.loop-self.self.bits) ≤ reached g c + g.B.BitBlock.width
  same : left_from g.B.BitBlock.number (next_at g.B.BitBlock.width c.loop-self.self.index
      (g.B.BitBlock.number c.loop-self.self.bits)) c.loop-self.self.end c.args.blocks.now ≡ left_from g.B.BitBlock.number
      (reached g c + g.B.BitBlock.width) c.loop-self.self.end c.args.blocks.now
  count : blocks_for g.B.BitBlock.width (c.loop-self.self.end - (c.loop-self.self.index + g.B.BitBlock.width)) ≡ c.pass_zero_chunks.result + blocks_for g.B.BitBlock.width
      (c.loop-self.self.end - (reached g c + g.B.BitBlock.width))

passed : (g : Over) (c : After-bits g) → IsPassed g c
passed g c =
    let w = g.B.BitBlock.width in
    let number = g.B.BitBlock.number in
    let is_block = g.B.BitBlock.is_block in
    let pos = g.met.B.BitBlock.width_law.positive in
    let xs = c.args.blocks.now in
    let it = c.loop-self.self in
    let hand = c.loop-self.invariant.walk.hand in
    let before = c.loop-self.invariant.walk.stored in
    let n = c.pass_zero_chunks.result in
    let zeros = c.pass_zero_chunks.ensures in
    let start = it.index + w in
    let end = it.end in
    let used_up : number it.bits ≡ 0 = grind (arith, nat_tests, c.is_nonzero.ensures, c.loop-self-test.true) in
    let at_end = next_at-zero w it.index (number it.bits) used_up in
    let product = ap (λ b. n * b) c.bits.ensures in
    let e : reached g c + w ≡ start + n * w = omega (arith, product) in
    let within : reached g c ≤ end =
    ⊎_elim
    (λ some. let few = before.no_more (omega (arith, some, zeros.there)) in omega (arith, few, mul-le-mul_right w zeros.there, product))
    (λ none. let zero : n * w ≡ 0 * w = ap (λ k. k * w) (let e : n ≡ 0 = omega (arith, none) in e) in omega (arith, zero, product, hand.within))
    (cases_lt 0 n) in
    record {
      used_up = used_up;
      walk = record {
        hand = IsInHand-zero w number is_block (reached g c) end it.bits xs hand.each hand.fits hand.of_block used_up within hand.ends;
        stored = stored_past w number is_block n start (reached g c + w) end xs it.summary.left c.pass_zero_chunks.new.summary.left pos e before (λ _. zeros.there) zeros.left;
      };
      at = omega (arith, at_end, e);
      same =
          ap (λ p. left_from number p end xs) at_end
          ∙ zeros_passed w number is_block n start (reached g c + w) end xs it.summary.left pos e before zeros.there zeros.zeros;
      count = count_past w number is_block n start (reached g c + w) end xs it.summary.left pos e before zeros.there;
    }

pub returns-then-self-bits : goal.returns-then-self-bits
returns-then-self-bits g c =
    let at = (goal.at.returns-then-self-bits g c).After-bits in
    let w = g.B.BitBlock.width in
    let number = g.B.BitBlock.number in
    let xs = c.args.blocks.now in
    let end = c.loop-self.self.end in
    let start = reached g at + w in
    let before = c.loop-self.invariant in
    let to = passed g at in
    let pulls = c.pass_zero_chunks.ensures.pulls in
    let past : end ≤ start = omega (arith, c.if-self-bits.true, c.bits-in-loop-self.ensures) in
    let ended = left-ended number start end xs past in
    record {
      walk = to.walk;
      end = before.end;
      found = record {
        inside = tt;
        item = tt;
        onward = tt;
        goes_on = omega (arith, before.goes_on, pulls);
        summary = omega (arith, before.pulled, pulls, to.count);
        ended = λ _. (before.same ∙ to.same ∙ ended, ap (λ p. left_from number p end xs) (next_at-zero w (reached g at) (number c.loop-self.self.bits) to.used_up) ∙ ended, past);
      };
    }

pub pull_used-self-requires-clause-stored : goal.pull_used-self-requires-clause-stored
pull_used-self-requires-clause-stored g c = rw c.bits-in-loop-self-2.ensures (passed g (goal.at.pull_used-self-requires-clause-stored g c).After-bits).walk.stored

pub loop-self-preserved : goal.loop-self-preserved
loop-self-preserved g c =
    let at = (goal.at.loop-self-preserved g c).After-bits in
    let w = g.B.BitBlock.width in
    let number = g.B.BitBlock.number in
    let is_block = g.B.BitBlock.is_block in
    let pos = g.met.B.BitBlock.width_law.positive in
    let xs = c.args.blocks.now in
    let end = c.loop-self.self.end in
    let before = c.loop-self.invariant in
    let to = passed g at in
    let start = reached g at + w in
    let pull = c.pull_used-self.ensures in
    let left = c.pass_zero_chunks.new.summary.left in
    let more : start < end = omega (arith, c.if-self-bits.false, c.bits-in-loop-self.ensures) in
    let digits = rw c.bits-in-loop-self-2.ensures at pull.digits in
    rw c.bits-in-loop-self-2.ensures (record {
      walk = record {
        hand = record {
          each = before.walk.hand.each;
          of_block = pull.of_block;
          fits = before.walk.hand.fits;
          ends = before.walk.hand.ends;
          within = omega (arith, more);
          inside = digits.inside;
          covers = λ i j after to one before used. digits.covers j to before used;
        };
        stored = stored_past w number is_block 1 start (start + w) end xs left c.pull_used-self.new.summary.left pos (omega arith) to.walk.stored
            (stored_some w number is_block start end xs left to.walk.stored more) pull.left;
      };
      end = before.end;
      same = before.same ∙ to.same ∙ sym
          (left-covered w number is_block start start end (number c.pull_used-self.result) xs (omega arith) (omega arith)
          (λ j below. absurd (omega (arith, below))) (λ j to _ before used. digits.covers j to before used));
      onward = omega (arith, before.onward, to.at);
      pulled = omega (arith, before.pulled, pull.pulls, c.pass_zero_chunks.ensures.pulls, to.count, count_by w number is_block 1 start (start + w) end pos (omega arith) (omega (arith, more)));
      goes_on = omega (arith, before.goes_on, pull.pulls, c.pass_zero_chunks.ensures.pulls);
    })

pub loop-self-init : goal.loop-self-init
loop-self-init g c = record {
  walk = c.requires.walk;
  end = refl;
  same = refl;
  onward = omega arith;
  pulled = refl;
  goes_on = omega arith;
}

pub overflow_sub-self : goal.overflow_sub-self
overflow_sub-self g c = c.loop-self.invariant.walk.hand.within

pub pass_zero_chunks-requires : goal.pass_zero_chunks-requires
pass_zero_chunks-requires g c = record { each = c.loop-self.invariant.walk.stored.each }

pub overflow_mul-self : goal.overflow_mul-self
overflow_mul-self g c = let hand = (passed g c).walk.hand in record { fits = omega (arith, hand.within, hand.ends, hand.fits) }

pub overflow_add-self : goal.overflow_add-self
overflow_add-self g c = let hand = (passed g c).walk.hand in record { fits = omega (arith, hand.within, hand.ends, hand.fits) }

pub overflow_sub-self-in-loop-self : goal.overflow_sub-self-in-loop-self
overflow_sub-self-in-loop-self g c = (passed g (goal.at.overflow_sub-self-in-loop-self g c).After-bits).walk.hand.within

pub loop-self-smaller : goal.loop-self-smaller
loop-self-smaller g c = omega (arith, c.if-self-bits.false, c.bits-in-loop-self.ensures, c.bits-in-loop-self-2.ensures, g.met.B.BitBlock.width_law.positive)

pub overflow_add-result : goal.overflow_add-result
overflow_add-result g c =
    let hand = c.loop-self.invariant.walk.hand in
    let taken = c.take_lowest_one.ensures in
    record { fits = omega (arith, hand.inside c.take_lowest_one.result taken.within (is_one-bit 1 (g.B.BitBlock.number c.loop-self.self.bits) c.take_lowest_one.result taken.lowest.one), hand.ends, hand.fits) }

pub returns : goal.returns
returns g c =
    let w = g.B.BitBlock.width in
    let number = g.B.BitBlock.number in
    let is_block = g.B.BitBlock.is_block in
    let xs = c.args.blocks.now in
    let it = c.loop-self.self in
    let end = it.end in
    let i = c.take_lowest_one.result in
    let k = it.index + i in
    let before = c.loop-self.invariant in
    let hand = before.walk.hand in
    let taken = c.take_lowest_one.ensures in
    let at = next_at-lowest w it.index (number it.bits) i taken.lowest taken.within in
    let (past, rest) = left-taken w number is_block it.index end i (number c.take_lowest_one.new.block) it.bits xs hand taken.lowest taken.within taken.cleared in
    let inside = hand.inside i taken.within (is_one-bit 1 (number it.bits) i taken.lowest.one) in
    record {
      walk = record {
        hand = IsInHand-taken w number is_block it.index end i it.bits c.take_lowest_one.new.block xs hand taken.of_block taken.lowest taken.cleared;
        stored = before.walk.stored;
      };
      end = before.end;
      found = record {
        inside = inside;
        item = λ x here.
            before.same
            ∙ ap (λ p. left_from number p end xs) at
            ∙ left-here number k end x xs inside hand.ends here
            ∙ ap (λ ys. if number x == 0 then ys else (k, x) ∷ ys) (sym rest);
        onward = (omega (arith, before.onward, at), past);
        goes_on = before.goes_on;
        summary = before.pulled;
        ended = λ none. absurd (some_is none);
      };
    }
