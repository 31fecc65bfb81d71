use Rattle.std.proofs.{Common.{◌≡◌, map, vec_capacity, refl, sym, ap, ◌∙◌, arith}, lemmas.{Bool.true≢false, Result.err_from_is_err_and}}
use Rattle.bit_blocks.{specs.Bits.{blocks_for, capacity_of}, proofs.{StorageLemmas.values_of-replicate, VectorLemmas.blocks_for-none}}
use Rattle.bit_words.{specs.Summary.shared_capacity, proofs.{CapacityLemmas.shared_whole, SummaryLemmas.use_of_values}}
use Rattle.bit_blocks.proofs.VectorLemmas.{le-capacity_of, numbers_below}
use Rattle.bit_words.proofs.StartLemmas.{false_before_none}
use Rattle.bit_words.proofs.bit_vec.BitVec.from_elem_general.Goals as goal

pub returns-in_err-blocks : goal.returns-in_err-blocks
returns-in_err-blocks g c =
    let p = err_from_is_err_and c.from_residual.result c.from_residual.ensures.1 in
    rw p.1 (record {
      values = tt;
      holds_values = tt;
      capacity = tt;
      empty = λ none. absurd (true≢false (sym (c.in_err-blocks.ensures.empty none)));
    })

pub returns-in_err-summary : goal.returns-in_err-summary
returns-in_err-summary g c =
    let w = g.B.BitBlock.width in
    let p = err_from_is_err_and c.from_residual-in_err-summary.result c.from_residual-in_err-summary.ensures.1 in
    rw p.1 (record {
      values = tt;
      holds_values = tt;
      capacity = tt;
      empty = λ none.
          let count = c.in_ok-blocks.ensures.packed.count ∙ ap (blocks_for w) none ∙ sym (blocks_for-none w g.met.B.BitBlock.width_law.positive) in
          absurd (true≢false (sym (c.in_err-summary.ensures.short (omega (arith, c.deref.ensures.len, count)))));
    })

pub uniform_summary-requires : goal.uniform_summary-requires
uniform_summary-requires g c =
    let w = g.B.BitBlock.width in
    let f = g.B.BitBlock.number in
    let packed = c.in_ok-blocks.ensures.packed in
    rw c.deref.ensures.value (record {
      blocks = packed.each;
      uniform = λ k within.
          use_of_values w c.args.n k (map f c.in_ok-blocks.blocks.items) c.args.bit g.met.B.BitBlock.width_law.positive
          (numbers_below w f _ _ (λ x is. (g.met.B.BitBlock.number_law x is).0) packed.each k) (omega (arith, packed.count))
          (λ i from inside. c.in_ok-blocks.ensures.filled i inside) packed.tail.zero_tail;
    })

pub invariant_of-result : goal.invariant_of-result
invariant_of-result g c = record {
  packed = c.in_ok-blocks.ensures.packed;
  summary = rw c.deref.ensures.value at c.in_ok-summary.ensures.summary;
  start = λ _. false_before_none _ _;
}

pub returns : goal.returns
returns g c =
    let w = g.B.BitBlock.width in
    let packed = c.in_ok-blocks.ensures.packed in
    let summary = rw (c.deref.ensures.value, packed.count) at c.in_ok-summary.ensures.capacity in
    let whole : shared_capacity w (vec_capacity c.in_ok-blocks.blocks)
    (vec_capacity c.in_ok-summary.summary) ≡ blocks_for w c.args.n = shared_whole w _ _ _ g.met.B.BitBlock.width_law.positive c.in_ok-blocks.ensures.capacity summary in
    record {
      values = values_of-replicate _ _ _ _ c.in_ok-blocks.ensures.filled;
      holds_values = rw whole (le-capacity_of w (blocks_for w c.args.n) c.args.n g.met.B.BitBlock.width_law.positive packed.fits (omega arith));
      capacity = ap (capacity_of w) whole;
      empty = λ _. refl;
    }
