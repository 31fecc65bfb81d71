use Rattle.std.proofs.Common.{vec_capacity, arith}
use Rattle.bit_words.proofs.{CapacityLemmas.stored_from_shared, GrowthLemmas.Reserves-within}
use Rattle.bit_words.proofs.summary.shared_capacity.reserve_shared.Goals as goal

pub returns-then-have_capacity-clause-capacity : goal.returns-then-have_capacity-clause-capacity
returns-then-have_capacity-clause-capacity g c =
    let enough = c.have_capacity.ensures.yes c.if-have_capacity.true in
    let stored = stored_from_shared g.B.BitBlock.width (vec_capacity c.args.blocks.now) (vec_capacity c.args.summary.now) c.args.count g.met.B.BitBlock.width_law.positive enough in
    record {
      reserves = Reserves-within _ _ enough;
      exact = λ _. omega arith;
      exact_summary = λ _. omega arith;
    }
