use Rattle.std.{specs.List.list_any, proofs.Common.{◌≡◌, ◌==◌, ◌||◌, false, length, nat_le, rules, tests, sym, ap, ◌∙◌}}
use Rattle.std.proofs.{lemmas.Iterator.YieldsList-from_slice, lemmas.Iterator.Search.any_from_yields_List}
use Rattle.dataflow.proofs.expressions.starts_empty.Goals as goal

pub returns-else-is_empty : goal.returns-else-is_empty
returns-else-is_empty c =
    let found : c.any.result ≡ list_any (λ p. nat_le c.args.blocks p) c.args.predecessors.now =
    any_from_yields_List (λ p. nat_le c.args.blocks p) _ _ _ c.any.ensures.ran
    (YieldsList-from_slice c.args.predecessors.now (cc)) (λ x b q k. search (rules, tests)) in
    let some : (length c.args.predecessors.now == 0) ≡ false = sym c.is_empty.ensures ∙ c.if-is_empty.false in
    found ∙ ap (λ b. b || list_any (λ p. nat_le c.args.blocks p) c.args.predecessors.now) (sym some)
