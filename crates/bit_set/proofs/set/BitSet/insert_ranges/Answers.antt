use Rattle.std.{proofs.Common.{◌≤◌, ◌∷◌, length, refl, ap, subst, sym, ◌∙◌, arith}, specs.Result.is_ok}
use Rattle.set_algebra.specs.{Ranges.span_end, Sets.elements}
use Rattle.bit_set.{specs.RangeReading.items_left, proofs.RangeTextLemmas.{Fills, fills_all, fills_end, fills_first, fills_first_items, fills_more, next_items}}
use Rattle.bit_set.proofs.set.BitSet.insert_ranges.{Given.Over, Goals.{After-first_item, After-insert_range}}
use Rattle.bit_set.proofs.set.BitSet.insert_ranges.Goals as goal

pub items-init : goal.items-init
items-init g c = record {
  fills = fills_first_items c.args.text.now c.all_items-rest.result _ _ c.requires.none c.requires.reads
      c.all_items-rest.ensures.some c.all_items-rest.ensures.none;
  len = refl;
  capacity = refl;
}

-- the item is the first of those that are left
fills : (g : Over) (c : After-first_item g)
    → Fills c.args.text.now (c.first_item.result.0.now ∷ items_left c.first_item.result.1)
    (length c.args.self.now.values) (elements c.items.self.values)
fills g c =
    let items = next_items c.in-Some.items.now c.first_item.result.0.now c.first_item.result.1
    c.first_item.ensures.items in
    subst (λ is. Fills c.args.text.now is (length c.args.self.now.values) (elements c.items.self.values)) items
    (rw c.in-Some.is at c.items.invariant.fills)

pub unwrap-range-requires : goal.unwrap-range-requires
unwrap-range-requires g c =
    let first = fills_first c.args.text.now c.first_item.result.0.now _ _ _
    (fills g (goal.at.unwrap-range-requires g c).After-first_item) in
    ap is_ok (c.read_range.ensures ∙ first.1)

-- the list is long enough
within : (g : Over) (c : After-insert_range g)
    → Fills c.args.text.now (c.first_item.result.0.now ∷ items_left c.first_item.result.1)
    (length c.args.self.now.values) (elements c.items.self.values)
    → span_end c.unwrap-range.result.start c.unwrap-range.result.end ≤ length c.args.self.now.values
within g c left = fills_end c.args.text.now c.first_item.result.0.now _ _ _ c.unwrap-range.result left
    (sym c.read_range.ensures ∙ c.unwrap-range.ensures)

pub unwrap-requires : goal.unwrap-requires
unwrap-requires g c =
    let end = within g (goal.at.unwrap-requires g c).After-insert_range
    (fills g (goal.at.unwrap-requires g c).After-first_item) in
    c.insert_range.ensures.grows.grows.succeeds
    (omega (arith, end, c.items.invariant.len, c.insert_range.ensures.grows.grows.holds_values))

pub items-preserved : goal.items-preserved
items-preserved g c =
    let at = goal.at.items-preserved g c in
    let end = within g at.After-insert_range (fills g at.After-first_item) in
    let long = rw c.unwrap.ensures at c.insert_range.ensures.grows.long in
    record {
      fills = fills_more c.args.text.now c.first_item.result.0.now _ _ _ _ c.unwrap-range.result
          (fills g at.After-first_item) (sym c.read_range.ensures ∙ c.unwrap-range.ensures)
          (rw c.unwrap.ensures at c.insert_range.ensures.members);
      len = omega (arith, long, end, c.items.invariant.len);
      capacity = c.insert_range.ensures.grows.grows.within
          (omega (arith, end, c.items.invariant.len, c.insert_range.ensures.grows.grows.holds_values))
          ∙ c.items.invariant.capacity;
    }

pub returns-clause-members : goal.returns-clause-members
returns-clause-members g c = fills_all c.args.text.now _ (elements c.items.self.values)
    (rw c.in_default.is at c.items.invariant.fills)
