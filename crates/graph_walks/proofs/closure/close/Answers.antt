use Rattle.std.proofs.{Common.{◌≡◌, ℕ, ◌<◌, ◌≤◌, [], length, get_or, ap, sym, ◌∙◌, arith}, lemmas.Bool.true≢false}
use Rattle.std.proofs.{lemmas.List.length-map, lemmas.List.Elements.All-get_or}
use Rattle.bit_set.specs.{Bits.Bits, Sets.elements}
use Rattle.graph_walks.specs.{Closed.row, Paths.rows_of}
use Rattle.graph_walks.proofs.CloseLemmas.{adds_all, closes_none, closes_on, is_closed, is_closure, long_on, no_row_is_full}
use Rattle.graph_walks.proofs.CloseLemmas.{none_on_the_way, on_kept, on_the_way, on_within, passes, read_row, spacious_first}
use Rattle.graph_walks.proofs.CloseLemmas.{spacious_on, same_capacities, without_length}
use Rattle.graph_walks.proofs.closure.close.Goals as goal

pub returns-in_err-via-clause-on_the_way : goal.returns-in_err-via-clause-on_the_way
returns-in_err-via-clause-on_the_way g c = none_on_the_way (rows_of c.args.rows.now)

pub returns-in_err-via-clause-no_length : goal.returns-in_err-via-clause-no_length
returns-in_err-via-clause-no_length g c none =
    let at : (u : ℕ) → u < length c.args.rows.now → length (row c.args.rows.now u).values ≤ 0 =
    λ u lt. let is = All-get_or (λ (r : Bits). length r.values ≡ 0) c.args.rows.now u
    (record { values = []; capacity = 0 }) lt none in omega (arith, is) in
    let zero_long = c.longest.ensures.least 0 at in
    absurd (true≢false (sym (c.in_err-via.ensures.empty (omega (arith, zero_long)))))

pub loop-node-init : goal.loop-node-init
loop-node-init g c = record {
  closes = closes_none (rows_of c.args.rows.now);
  long = λ u lt. omega (arith, c.longest.ensures.all u lt, c.in_ok-via.ensures.capacity);
  spacious = λ m all. spacious_first m c.args.rows.now all;
}

-- the spare row has the capacity for each row
pub unwrap-requires : goal.unwrap-requires
unwrap-requires g c =
    let node = c.loop-node.node in
    let inside : node < length c.loop-node.rows = omega arith in
    let short = c.loop-node.invariant.long node (omega arith) in
    let as_long : length (get_or c.loop-node.rows node c.index-rows-node.result).values ≡ length (row c.loop-node.rows
    node).values = ap (λ (r : Bits). length r.values) (read_row c.loop-node.rows node c.index-rows-node.result inside) in
    c.clone_from.ensures.grows.succeeds (omega (arith, short, as_long))

pub returns-in_err-join_all-clause-on_the_way : goal.returns-in_err-join_all-clause-on_the_way
returns-in_err-join_all-clause-on_the_way g c =
    let inside : c.loop-node.node < length c.loop-node.rows = omega arith in
    let copied : c.clone_from.new.self.values ≡ (row c.loop-node.rows c.loop-node.node).values =
    (rw c.unwrap.ensures at c.clone_from.ensures.ok)
    ∙ ap (λ (r : Bits). r.values) (read_row c.loop-node.rows c.loop-node.node c.index-rows-node.result inside) in
    let passed = passes c.loop-node.node c.clone_from.new.self c.loop-node.rows c.join_all.new.rows copied c.in_err-join_all.ensures.some in
    on_the_way _ _ (on_kept _ _ _ c.loop-node.node c.loop-node.invariant.closes passed) (on_within _ _ _ c.loop-node.node c.loop-node.invariant.closes passed)

pub returns-in_err-join_all-clause-spare : goal.returns-in_err-join_all-clause-spare
returns-in_err-join_all-clause-spare g c m all =
    let inside : c.loop-node.node < length c.loop-node.rows = omega arith in
    let copied : c.clone_from.new.self.values ≡ (row c.loop-node.rows c.loop-node.node).values =
    (rw c.unwrap.ensures at c.clone_from.ensures.ok)
    ∙ ap (λ (r : Bits). r.values) (read_row c.loop-node.rows c.loop-node.node c.index-rows-node.result inside) in
    let full = c.in_err-join_all.ensures.full in
    absurd (no_row_is_full m c.loop-node.node c.clone_from.new.self c.args.rows.now c.loop-node.rows copied (c.loop-node.invariant.spacious m all) (omega arith) full.0 (omega arith) full.2)

pub returns-in_err-join_all-clause-no_length : goal.returns-in_err-join_all-clause-no_length
returns-in_err-join_all-clause-no_length g c none =
    let inside : c.loop-node.node < length c.loop-node.rows = omega arith in
    let copied : c.clone_from.new.self.values ≡ (row c.loop-node.rows c.loop-node.node).values =
    (rw c.unwrap.ensures at c.clone_from.ensures.ok)
    ∙ ap (λ (r : Bits). r.values) (read_row c.loop-node.rows c.loop-node.node c.index-rows-node.result inside) in
    let full = c.in_err-join_all.ensures.full in
    absurd (no_row_is_full 0 c.loop-node.node c.clone_from.new.self c.args.rows.now c.loop-node.rows copied
    (c.loop-node.invariant.spacious 0 (without_length c.args.rows.now none)) (omega arith) full.0 (omega arith) full.2)

pub returns-in_err-join_all-clause-capacity : goal.returns-in_err-join_all-clause-capacity
returns-in_err-join_all-clause-capacity g c m all =
    let inside : c.loop-node.node < length c.loop-node.rows = omega arith in
    let copied : c.clone_from.new.self.values ≡ (row c.loop-node.rows c.loop-node.node).values =
    (rw c.unwrap.ensures at c.clone_from.ensures.ok)
    ∙ ap (λ (r : Bits). r.values) (read_row c.loop-node.rows c.loop-node.node c.index-rows-node.result inside) in
    let spacious = c.loop-node.invariant.spacious m all in
    let at_most_m = spacious.long c.loop-node.node (omega arith) in
    let as_long : length c.clone_from.new.self.values ≡ length (row c.loop-node.rows c.loop-node.node).values = ap length copied in
    same_capacities m c.args.rows.now c.join_all.new.rows (omega arith)
    (spacious_on m c.loop-node.node c.clone_from.new.self c.args.rows.now c.loop-node.rows c.join_all.new.rows
    (omega (arith, at_most_m, as_long)) c.in_err-join_all.ensures.some spacious)

pub loop-node-preserved : goal.loop-node-preserved
loop-node-preserved g c =
    let node = c.loop-node.node in
    let via = c.clone_from.new.self in
    let inside : node < length c.loop-node.rows = omega arith in
    let read = read_row c.loop-node.rows node c.index-rows-node.result inside in
    let copied : via.values ≡ (row c.loop-node.rows node).values = (rw c.unwrap.ensures at c.clone_from.ensures.ok) ∙ ap (λ (r : Bits). r.values) read in
    let as_long : length via.values ≡ length (row c.loop-node.rows node).values = ap length copied in
    let short = c.loop-node.invariant.long node (omega arith) in
    let read_long : length (get_or c.loop-node.rows node c.index-rows-node.result).values ≡ length (row c.loop-node.rows node).values = ap (λ (r : Bits). length r.values) read in
    let same_capacity : via.capacity ≡ c.loop-node.via.capacity = c.clone_from.ensures.grows.within (omega (arith, short, read_long)) in
    let passed = passes node via c.loop-node.rows c.join_all.new.rows copied c.in_ok-join_all.ensures.some in
    record {
      closes = closes_on _ _ _ node c.loop-node.invariant.closes passed (adds_all node via c.loop-node.rows c.join_all.new.rows copied c.in_ok-join_all.ensures.each);
      long = λ u lt. rw same_capacity (long_on c.loop-node.via.capacity node via c.loop-node.rows c.join_all.new.rows
          (omega (arith, short, as_long)) c.in_ok-join_all.ensures.some u (c.loop-node.invariant.long u lt));
      spacious = λ m all.
          let spacious = c.loop-node.invariant.spacious m all in
          let at_most_m = spacious.long node (omega arith) in
          spacious_on m node via c.args.rows.now c.loop-node.rows c.join_all.new.rows (omega (arith, at_most_m, as_long)) c.in_ok-join_all.ensures.some spacious;
    }

pub returns-clause-closure : goal.returns-clause-closure
returns-clause-closure g c =
    let all : length (rows_of c.loop-node.rows) ≤ c.loop-node.node = omega (arith, length-map c.loop-node.rows (λ (set : Bits). elements set.values)) in
    is_closure (rows_of c.args.rows.now) (rows_of c.loop-node.rows) c.loop-node.node all c.loop-node.invariant.closes

pub returns-clause-closed : goal.returns-clause-closed
returns-clause-closed g c =
    let all : length (rows_of c.loop-node.rows) ≤ c.loop-node.node = omega (arith, length-map c.loop-node.rows (λ (set : Bits). elements set.values)) in
    is_closed (rows_of c.args.rows.now) (rows_of c.loop-node.rows) c.loop-node.node all c.loop-node.invariant.closes

pub returns-clause-on_the_way : goal.returns-clause-on_the_way
returns-clause-on_the_way g c = on_the_way _ _ c.loop-node.invariant.closes.kept c.loop-node.invariant.closes.within

pub returns-clause-capacity : goal.returns-clause-capacity
returns-clause-capacity g c m all = same_capacities m c.args.rows.now c.loop-node.rows (omega arith) (c.loop-node.invariant.spacious m all)
