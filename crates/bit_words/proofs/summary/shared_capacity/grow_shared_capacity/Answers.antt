use Rattle.std.proofs.{Common.{◌≡◌, ◌<◌, ◌≤◌, ◌∙◌, ap, vec_capacity, arith}, lemmas.Result.{on_ok_weaker, on_err_weaker}}
use Rattle.bit_words.{specs.Summary.{shared_capacity, stored_for}, proofs.{CapacityLemmas.{shared_enough, shared_by_blocks, shared_by_summary}, GrowthLemmas.Reserves-le}}
use Rattle.bit_words.proofs.summary.shared_capacity.grow_shared_capacity.Goals as goal

-- the summary first
pub returns-in_ok-reserve_blocks-clause-capacity : goal.returns-in_ok-reserve_blocks-clause-capacity
returns-in_ok-reserve_blocks-clause-capacity g c =
    let w = g.B.BitBlock.width in
    let blocks = vec_capacity c.args.blocks.now in
    let summary = vec_capacity c.args.summary.now in
    let made = c.reserve_blocks-then-stored_count-capacity in
    let counted : c.stored_count.result ≡ stored_for w blocks = rw c.capacity.ensures at c.stored_count.ensures in
    let covered : stored_for w blocks ≤ summary = omega arith in
    let got = made.ensures.capacity in
    record {
      reserves = record {
        ok = on_ok_weaker _ (λ (enough : c.args.count ≤ vec_capacity made.new.blocks).
            shared_enough _ _ _ _ g.met.B.BitBlock.width_law.positive enough (rw c.stored_count-needed.ensures at c.in_ok-reserve_blocks.ensures.capacity.ok)) got.ok;
        full = on_err_weaker _ (λ _. c.requires) got.err;
        err = on_err_weaker _ (λ (same : vec_capacity made.new.blocks ≡ blocks).
            ap (λ n. shared_capacity w n (vec_capacity c.reserve_blocks.new.blocks)) same
            ∙ shared_by_blocks w _ _ _ g.met.B.BitBlock.width_law.positive covered (Reserves-le _ _ _ _ c.in_ok-reserve_blocks.ensures.capacity)) got.err;
        within = λ enough. absurd (omega arith);
      };
      exact = made.ensures.exact;
      exact_summary = λ yes. on_ok_weaker _ (λ (enough : c.args.count ≤ vec_capacity made.new.blocks).
          rw c.stored_count-needed.ensures at c.in_ok-reserve_blocks.ensures.exact yes) got.ok;
    }

-- the blocks first
pub returns-in_ok-reserve_blocks-2-clause-capacity : goal.returns-in_ok-reserve_blocks-2-clause-capacity
returns-in_ok-reserve_blocks-2-clause-capacity g c =
    let w = g.B.BitBlock.width in
    let blocks = vec_capacity c.args.blocks.now in
    let summary = vec_capacity c.args.summary.now in
    let made = c.reserve_blocks-else-stored_count-capacity-2 in
    let counted : c.stored_count.result ≡ stored_for w blocks = rw c.capacity.ensures at c.stored_count.ensures in
    let short : summary < stored_for w blocks = omega arith in
    let got = made.ensures.capacity in
    record {
      reserves = record {
        ok = on_ok_weaker _ (λ (enough : stored_for w c.args.count ≤ vec_capacity made.new.blocks).
            shared_enough _ _ _ _ g.met.B.BitBlock.width_law.positive c.in_ok-reserve_blocks-2.ensures.capacity.ok enough) (rw c.stored_count-needed.ensures at got.ok);
        full = on_err_weaker _ (λ _. c.requires) got.err;
        err = on_err_weaker _ (λ (same : vec_capacity made.new.blocks ≡ summary).
            ap (shared_capacity w (vec_capacity c.reserve_blocks-else-stored_count-capacity.new.blocks)) same
            ∙ shared_by_summary w _ _ _ g.met.B.BitBlock.width_law.positive short (Reserves-le _ _ _ _ c.in_ok-reserve_blocks-2.ensures.capacity)) got.err;
        within = λ enough. absurd (omega arith);
      };
      exact = λ yes. on_ok_weaker _ (λ (enough : stored_for w c.args.count ≤ vec_capacity made.new.blocks).
          c.in_ok-reserve_blocks-2.ensures.exact yes) (rw c.stored_count-needed.ensures at got.ok);
      exact_summary = rw c.stored_count-needed.ensures at made.ensures.exact;
    }
