use Rattle.std.proofs.Common.{length, ap, ◌∙◌, arith}
use Rattle.bit_set.proofs.{ChainLemmas.runs_with_bound, PairLemmas.length-intersection}
use Rattle.bit_set.proofs.set.BitSet.intersection.Goals as goal

pub invariant_of-result : goal.invariant_of-result
invariant_of-result g c =
    let most = length-intersection c.args.self.now.values c.args.other.now.values in
    let first = c.len.ensures.value ∙ ap (λ bits. length bits.values) c.get_ref.ensures in
    let second = c.len-2.ensures.value ∙ ap (λ bits. length bits.values) c.get_ref-2.ensures in
    omega (arith, ap length c.over.ensures.left, most, first, second, c.min.ensures)

pub returns-clause-runs : goal.returns-clause-runs
returns-clause-runs g c = runs_with_bound
