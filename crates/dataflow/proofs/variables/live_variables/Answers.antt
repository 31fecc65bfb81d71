use Rattle.std.proofs.lemmas.Result.{IfOk-weaker}
use Rattle.dataflow.{specs.Flow.lists_of, proofs.AnalysisLemmas.{are_live, each_live}}
use Rattle.dataflow.proofs.variables.live_variables.Goals as goal

pub returns-clause-solution : goal.returns-clause-solution
returns-clause-solution g c = IfOk-weaker c.solve.result _ _ (λ sets h. are_live c.args.blocks.now (lists_of sets.items) h) c.solve.ensures.solution

pub returns-clause-live : goal.returns-clause-live
returns-clause-live g c = IfOk-weaker c.solve.result _ _ (λ sets h. each_live c.args.blocks.now (lists_of sets.items) h) c.solve.ensures.reached
