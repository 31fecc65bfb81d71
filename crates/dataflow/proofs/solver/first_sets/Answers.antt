use Rattle.std.proofs.{Common.{◌≡◌, ◌<◌, ap, ◌∙◌, length, map, arith, refl}, lemmas.List.take_all}
use Rattle.bit_set.specs.{Bits.Bits, Sets.elements}
use Rattle.dataflow.{specs.Flow.lists_of, proofs.TakeLemmas.{few_pushed, push_mapped}}
use Rattle.dataflow.proofs.solver.first_sets.Goals as goal

pub loop-block-preserved : goal.loop-block-preserved
loop-block-preserved g c =
    let i = c.loop-block.block-index in
    let inside : i < length c.args.blocks.now = omega arith in
    let same : elements c.clone_from.new.self.values ≡ (g.N.Block.flow c.block-item.result).generated = ap elements c.in_ok-clone_from.ensures.ok ∙ c.generated.ensures.elements in
    record {
      generated = rw c.in_ok-push.ensures.items (push_mapped (λ block. (g.N.Block.flow block).generated)
          (λ (set : Bits). elements set.values) c.args.blocks.now i c.block-item.result c.loop-block.sets.items
          c.clone_from.new.self inside c.block-item.is c.loop-block.invariant.generated same);
      few = rw c.in_ok-push.ensures.items (few_pushed c.loop-block.sets.items c.clone_from.new.self _ c.loop-block.invariant.few c.bounded.ensures);
    }

pub loop-block-init : goal.loop-block-init
loop-block-init g c = record {
  generated = ap lists_of c.in_ok-sets.ensures.items;
  few = λ b. rw c.in_ok-sets.ensures.items (omega arith);
}

pub returns-clause-generated : goal.returns-clause-generated
returns-clause-generated g c =
    c.loop-block.invariant.generated ∙ ap (map (λ block. (g.N.Block.flow block).generated)) (take_all _ _ c.loop-block-test.false)

pub returns-clause-few : goal.returns-clause-few
returns-clause-few g c = c.loop-block.invariant.few

pub returns-clause-none : goal.returns-clause-none
returns-clause-none g c _ = refl
