use Rattle.std.proofs.Common.{◌≡◌, ◌≢◌, ◌∙◌, sym, ap, ap₂, arith, ⊎_elim}
use Rattle.std.proofs.lemmas.Bool.{cases_eq}
use Rattle.bit_blocks.{specs.Digits.is_one, proofs.{CompareLemmas.digit_from_zero, Masks.is_one-zero, UseLemmas.zero_from_unused}}
use Rattle.bit_words.specs.MergedOnes.{may_merge}
use Rattle.bit_words.proofs.summary.counts.by_summaries.used_chunks.Goals as goal

pub loop-j-init : goal.loop-j-init
loop-j-init g c = record {
  of_block = c.zero-digits.ensures.of_block;
  past = λ j from within. ap (λ n. is_one n j) c.zero-digits.ensures.of_number ∙ is_one-zero j;
  none = λ j p below zero index. absurd (omega arith);
}

pub loop-j-preserved : goal.loop-j-preserved
loop-j-preserved g c =
    let number = g.B.BitBlock.number in
    let k = c.loop-j.j in
    let may = may_merge g.O.Operation.merge in
    record {
      of_block = c.with_one_if-digits.ensures.of_block;
      past = λ j from within. c.with_one_if-digits.ensures.others j within (λ e. omega (arith, e)) ∙ c.loop-j.invariant.past j (omega arith) within;
      none = λ j p below zero index.
          ⊎_elim
          (λ (e : j ≡ k).
          let unused = sym c.is_nonzero.ensures ∙ sym c.with_one_if-digits.ensures.same ∙ ap (is_one (number c.with_one_if-digits.result)) (sym e) ∙ zero in
          let none = sym (c.may_have_ones-used.ensures.digits p index) ∙ digit_from_zero _ p (zero_from_unused _ unused) in
          rw e (ap₂ (λ m n. may (is_one m p) (is_one n p)) (sym c.block_at.ensures.of_number) (sym c.block_at-in-loop-j.ensures.of_number) ∙ none))
          (λ (ne : j ≢ k).
          let old = sym (c.with_one_if-digits.ensures.others j (omega arith) ne) ∙ zero in
          c.loop-j.invariant.none j p (omega (arith, ne)) old index)
          (cases_eq j k);
    }

pub with_one_if-digits-requires-clause-clear : goal.with_one_if-digits-requires-clause-clear
with_one_if-digits-requires-clause-clear g c = c.loop-j.invariant.past c.loop-j.j (omega arith) (omega arith)

pub returns : goal.returns
returns g c = let end : c.loop-j.j ≡ c.args.count = omega arith in record {
  of_block = c.loop-j.invariant.of_block;
  past = rw end at c.loop-j.invariant.past;
  none = rw end at c.loop-j.invariant.none;
}
