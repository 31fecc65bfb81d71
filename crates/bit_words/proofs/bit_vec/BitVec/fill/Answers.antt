use Rattle.std.proofs.Common.{◌∙◌, sym, ap, replicate}
use Rattle.bit_blocks.proofs.{StorageLemmas.values_of-replicate, VectorLemmas.length_from_view}
use Rattle.bit_words.proofs.{SameCapacity.same_capacity, StartLemmas.false_before_none}
use Rattle.bit_words.proofs.bit_vec.BitVec.fill.Goals as goal

pub returns-clause-values : goal.returns-clause-values
returns-clause-values g c =
    values_of-replicate _ _ _ _ c.fill_both.ensures.filled ∙ ap (λ n. replicate n c.args.bit) (sym (length_from_view _ _ _ _ _ c.self.view_is))

pub invariant_of-self : goal.invariant_of-self
invariant_of-self g c = record {
  packed = c.fill_both.ensures.packed;
  summary = c.fill_both.ensures.summary;
  start = λ _. false_before_none _ _;
}

pub returns-clause-capacity : goal.returns-clause-capacity
returns-clause-capacity g c = same_capacity _ _ _ _ _ _ c.fill_both.ensures.capacity c.fill_both.ensures.summary_capacity (ap (λ v. v.capacity) c.self.view_is)
