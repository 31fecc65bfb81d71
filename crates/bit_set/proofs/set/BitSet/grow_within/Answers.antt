use Rattle.std.proofs.Common.{ap, ◌∙◌, rules}
use Rattle.set_algebra.specs.Sets.{elements}
use Rattle.bit_set.proofs.ItemLemmas.{elements-grown}
use Rattle.bit_set.proofs.set.BitSet.grow_within.Goals as goal

pub returns-clause-kept : goal.returns-clause-kept
returns-clause-kept g c = record {
  members = elements-grown _ _ c.grow-grown.result c.self.inside.bits c.grow-grown.new.self c.grow-grown.ensures.ok c.grow-grown.ensures.grows
      ∙ ap (λ bits. elements bits.values) c.self.view_is;
  capacity = search rules;
}
