use Rattle.std.proofs.Common.{◌++◌, ap, append-nil, append_assoc, sym, ◌∙◌}
use Rattle.graph_walks.proofs.walk.listed.Goals as goal

pub loop-element-preserved : goal.loop-element-preserved
loop-element-preserved g c = rw (c.in_ok-push.ensures.items, append_assoc) (ap (λ l. c.loop-element.list.items ++ l) (sym c.in-Some.ensures.steps.item) ∙ c.loop-element.invariant)

pub returns : goal.returns
returns g c = sym (append-nil c.loop-element.list.items) ∙ ap (λ l. c.loop-element.list.items ++ l) (sym c.in-None.ensures.steps.item.0) ∙ c.loop-element.invariant
