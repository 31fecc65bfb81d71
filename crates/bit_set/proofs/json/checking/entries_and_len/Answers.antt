use Rattle.std.proofs.{Common.{◌≡◌, ap, sym, ◌∙◌, true≢false}, lemmas.{Option.{MatchOption-at_some, MatchOption-at_none}, Result.err_from_is_err_and}}
use Rattle.serde_json.specs.View.{view, items_view}
use Rattle.bit_blocks.specs.Bits.{blocks_for}
use Rattle.bit_set.{specs.{Entries.{AreParts, numbers_of}, Json.HasNumbers}, proofs.{JsonLemmas.{counted, has_numbers, no_numbers, was_none}, json.checking.entries_and_len.Goals.After-div_ceil}}
use Rattle.bit_set.proofs.json.checking.entries_and_len.Goals as goal

pub returns-in_err-len-clause-err : goal.returns-in_err-len-clause-err
returns-in_err-len-clause-err g c =
    let vs = c.in_ok-entries.entries.now in
    let parts : AreParts (view c.args.value.now) (items_view vs) (view c.in_ok-entries.nbits.now) = MatchOption-at_some _ _ _ c.in_ok-entries.ensures.ok_part c.parts.ensures in
    let none = was_none _ _ _ c.in_err-len.ensures.value in
    let p = err_from_is_err_and c.from_residual-in_err-len.result c.from_residual-in_err-len.ensures.1 in
    rw (p.1, p.2, none.1) (parts.shape, no_numbers g.B.BitBlock.width _ _ vs parts (MatchOption-at_none _ _ none.0 c.length_of.ensures))

-- the parts of the value, its numbers, and the blocks that it must have
found : (g : _) (c : After-div_ceil g) → AreParts (view c.args.value.now) (items_view c.in_ok-entries.entries.now) (view c.in_ok-entries.nbits.now)
    × HasNumbers g.B.BitBlock.width (view c.args.value.now) (numbers_of c.in_ok-entries.entries.now) c.in_ok-len.len × (c.div_ceil.result ≡ blocks_for g.B.BitBlock.width c.in_ok-len.len)
found g c =
    let parts = MatchOption-at_some _ _ _ c.in_ok-entries.ensures.ok_part c.parts.ensures in (
      parts,
      has_numbers g.B.BitBlock.width _ _ c.in_ok-entries.entries.now c.in_ok-len.len parts (MatchOption-at_some _ _ _ c.in_ok-len.ensures.ok_part c.length_of.ensures),
      c.div_ceil.ensures ∙ ap (λ x. blocks_for x c.in_ok-len.len) c.bits.ensures,
    )

pub returns-then-entries-div_ceil-clause-err : goal.returns-then-entries-div_ceil-clause-err
returns-then-entries-div_ceil-clause-err g c =
    let is = found g (goal.at.returns-then-entries-div_ceil-clause-err g c).After-div_ceil in
    let vs = c.in_ok-entries.entries.now in
    (is.0.shape, (numbers_of vs, c.in_ok-len.len, is.1, λ same. c.if-entries-div_ceil.true (sym (counted vs) ∙ same ∙ sym is.2)))

pub returns-then-not-has_zero_tail-clause-err : goal.returns-then-not-has_zero_tail-clause-err
returns-then-not-has_zero_tail-clause-err g c =
    let is = found g (goal.at.returns-then-not-has_zero_tail-clause-err g c).After-div_ceil in
    let vs = c.in_ok-entries.entries.now in (
      is.0.shape,
      (
        numbers_of vs,
        c.in_ok-len.len,
        is.1,
        counted vs ∙ c.if-entries-div_ceil.false ∙ is.2,
        λ zero_tail. true≢false (sym (c.has_zero_tail.ensures.1 zero_tail) ∙ c.if-not-has_zero_tail.true),
      ),
    )

pub returns-clause-ok : goal.returns-clause-ok
returns-clause-ok g c =
    let is = found g (goal.at.returns-clause-ok g c).After-div_ceil in
    record {
      shape = is.0.shape;
      numbers = is.1;
      count = counted c.in_ok-entries.entries.now ∙ c.if-entries-div_ceil.false ∙ is.2;
      zero_tail = c.has_zero_tail.ensures.0 c.if-not-has_zero_tail.false;
    }
