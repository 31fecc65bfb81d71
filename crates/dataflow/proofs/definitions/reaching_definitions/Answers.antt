use Rattle.std.proofs.lemmas.Result.{IfOk-weaker}
use Rattle.dataflow.{specs.Flow.lists_of, proofs.AnalysisLemmas.{are_reaching, each_reaching}}
use Rattle.dataflow.proofs.definitions.reaching_definitions.Goals as goal

pub returns-clause-solution : goal.returns-clause-solution
returns-clause-solution g c = IfOk-weaker c.solve.result _ _ (λ sets h. are_reaching c.args.blocks.now (lists_of sets.items) h) c.solve.ensures.solution

pub returns-clause-reaches : goal.returns-clause-reaches
returns-clause-reaches g c = IfOk-weaker c.solve.result _ _ (λ sets h. each_reaching c.args.blocks.now (lists_of sets.items) h) c.solve.ensures.reached
