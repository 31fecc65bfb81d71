use Rattle.std.proofs.{Common.{ap, ap₂, length, max, sym, ◌∙◌}, lemmas.List.{Sums.fold_more, take_all}}
use Rattle.std.specs.List.{fold}
use Rattle.dataflow.proofs.solver.longest.Goals as goal

pub loop-block-preserved : goal.loop-block-preserved
loop-block-preserved g c =
    let more = fold_more (λ most block. max most (g.N.Block.generated_length block)) 0 c.args.blocks.now c.loop-block.block-index c.block-item.result c.loop-block-test.true in
    let len = c.len.ensures.value ∙ ap (λ bits. length bits.values) c.get_ref.ensures ∙ c.generated.ensures.length ∙ ap g.N.Block.generated_length c.block-item.is in
    c.max-longest.ensures ∙ ap₂ max c.loop-block.invariant len ∙ sym more

pub returns : goal.returns
returns g c = c.loop-block.invariant ∙ ap (fold (λ most block. max most (g.N.Block.generated_length block)) 0) (take_all _ _ c.loop-block-test.false)
