use Rattle.std.{specs.Global.Vec, proofs.{Common.{◌≡◌, ◌≤◌, [], length, map, get_or, sym}, lemmas.Bool.ltb-false}}
use Rattle.bit_set.specs.Bits.{Bits}
use Rattle.automata.specs.{Bounds.IsRowWithin, Runs.{row_of, row_of_sets, rows_of_sets}}
use Rattle.automata.proofs.StepLemmas.{image_past, mapped, mapped_past}
use Rattle.automata.proofs.step.step.Goals as goal

pub returns-in-Some-clause-image : goal.returns-in-Some-clause-image
returns-in-Some-clause-image g c =
    let at : row_of (rows_of_sets c.args.moves.now) c.args.symbol ≡ row_of_sets c.in-Some.row.now.items =
    mapped (λ (row : Vec Bits). row_of_sets row.items) c.args.moves.now c.args.symbol c.in-Some.row.now []
    c.in-Some.ensures.lookup.3.0 c.in-Some.ensures.lookup.1 in
    rw (at, ← c.as_slice.ensures.value) c.image.ensures.image

pub returns-in-Some-clause-succeeds : goal.returns-in-Some-clause-succeeds
returns-in-Some-clause-succeeds g c within =
    let at : get_or (map (λ (row : Vec Bits). row.items) c.args.moves.now) c.args.symbol [] ≡ c.in-Some.row.now.items =
    mapped (λ (row : Vec Bits). row.items) c.args.moves.now c.args.symbol c.in-Some.row.now [] c.in-Some.ensures.lookup.3.0
    c.in-Some.ensures.lookup.1 in
    let short : IsRowWithin c.args.into.now.capacity c.as_slice.result.now = rw (c.as_slice.ensures.value, ← at) (within c.args.symbol) in
    c.image.ensures.succeeds short

pub returns-in-Some-clause-capacity : goal.returns-in-Some-clause-capacity
returns-in-Some-clause-capacity g c within =
    let at : get_or (map (λ (row : Vec Bits). row.items) c.args.moves.now) c.args.symbol [] ≡ c.in-Some.row.now.items =
    mapped (λ (row : Vec Bits). row.items) c.args.moves.now c.args.symbol c.in-Some.row.now [] c.in-Some.ensures.lookup.3.0
    c.in-Some.ensures.lookup.1 in
    let short : IsRowWithin c.args.into.now.capacity c.as_slice.result.now = rw (c.as_slice.ensures.value, ← at) (within c.args.symbol) in
    c.image.ensures.capacity short

pub returns-in-None-clause-image : goal.returns-in-None-clause-image
returns-in-None-clause-image g c =
    let past : length c.args.moves.now ≤ c.args.symbol = ltb-false c.args.symbol (length c.args.moves.now) (sym c.in-None.ensures.lookup.0) in
    image_past (rows_of_sets c.args.moves.now) c.args.symbol _ _ (mapped_past (λ (row : Vec Bits). row_of_sets row.items) c.args.moves.now c.args.symbol [] past) c.make_empty.ensures.members
