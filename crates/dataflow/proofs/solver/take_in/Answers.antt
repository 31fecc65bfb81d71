use Rattle.std.proofs.{Common.{◌≡◌, [], set, ap, ◌∙◌}, lemmas.List.get_or_default}
use Rattle.bit_set.specs.Sets.{elements}
use Rattle.dataflow.specs.{Flow.{lists_of, set_at}, Worklist.Transfers}
use Rattle.dataflow.proofs.TakeLemmas.{as_many_back, others_back, others_stay, put_back, read_set, same_back, takes_transfer, written}
use Rattle.dataflow.proofs.{solver.take_in.Given.Over, solver.take_in.Goals.After-drop-sets-2}
use Rattle.dataflow.proofs.solver.take_in.Goals as goal

-- the set that was taken out
taken : (g : Over) (c : After-drop-sets-2 g) → elements c.replace-own.result.values ≡ set_at (lists_of c.args.sets.now) c.args.number
taken g c =
    ap (λ own. elements own.values) c.replace-own.ensures.value
    ∙ read_set c.args.sets.now c.args.number _ (get_or_default c.args.sets.now c.args.number c.index-sets-number.result (record { values = []; capacity = 0 }) c.requires)

pub returns-clause-takes : goal.returns-clause-takes
returns-clause-takes g c =
    let sets = c.args.sets.now in
    let b = c.args.number in
    let block = g.N.Block.flow c.args.block.now in
    let none = c.replace-own.new.dest in
    let own = c.transfer.new.into in
    let empty : elements none.values ≡ [] = ap elements (ap (λ set_of. set_of.values) c.replace-own.ensures.after ∙ c.new_general.ensures.values) in
    let transfers : Transfers block.sources block.killed (lists_of (set sets b none)) (elements c.replace-own.result.values)
    (elements own.values) = rw (c.sources.ensures, c.killed.ensures) at c.in_ok-grew.ensures.transfers in
    takes_transfer block b (lists_of sets) (lists_of (set sets b none)) (lists_of (set (set sets b none) b own))
    (as_many_back sets b none own c.requires) (written sets b none c.requires ∙ empty) (others_stay sets b none)
    (others_back sets b none own c.requires)
    (rw (← taken g c, put_back sets b none own c.requires) transfers)

pub returns-clause-same : goal.returns-clause-same
returns-clause-same g c is_false = same_back c.args.sets.now c.args.number c.replace-own.new.dest c.transfer.new.into c.requires (c.in_ok-grew.ensures.same is_false ∙ taken g c)

pub returns-clause-grew : goal.returns-clause-grew
returns-clause-grew g c is_true =
    rw (← taken g c, put_back c.args.sets.now c.args.number c.replace-own.new.dest c.transfer.new.into c.requires) (c.in_ok-grew.ensures.grew is_true)

pub returns-clause-few : goal.returns-clause-few
returns-clause-few g c is_true = rw (put_back c.args.sets.now c.args.number c.replace-own.new.dest c.transfer.new.into c.requires) c.bounded.ensures
