use Rattle.std.proofs.{Common.{◌≢◌, ◌-◌, ◌%◌, ◌<◌, length, refl, ap, sym, ◌∙◌, subst, arith}, Math.Nat.mod-lt, lemmas.List.Elements.All-get_or}
use Rattle.bit_set.specs.Entries.{numbers_of, IsEntry}
use Rattle.bit_set.proofs.{JsonLemmas.{blocks_for_some, zero_tail_by_shift, zero_tail_full, tail_test, counted, number_at}, json.checking.has_zero_tail.Goals.Else-used-eq0}
use Rattle.bit_set.proofs.json.checking.has_zero_tail.Goals as goal

-- the last block is not full
part : (g : _) (c : Else-used-eq0 g) → c.args.len % g.B.BitBlock.width ≢ 0
part g c e = c.if-used-eq0.false (ap (λ x. c.args.len % x) c.bits.ensures ∙ e)

-- so there is one
some : (g : _) (c : Else-used-eq0 g) → length c.args.entries.now - 1 < length c.args.entries.now
some g c = blocks_for_some g.B.BitBlock.width c.args.len (length c.args.entries.now) (part g c) c.requires.count

pub returns-then-used-eq0 : goal.returns-then-used-eq0
returns-then-used-eq0 g c =
    let full = sym (ap (λ x. c.args.len % x) c.bits.ensures) ∙ c.if-used-eq0.true in
    (λ _. zero_tail_full _ c.args.len (numbers_of c.args.entries.now) full (counted c.args.entries.now ∙ c.requires.count), λ _. refl)

pub nonzero_rem-used : goal.nonzero_rem-used
nonzero_rem-used g c = rw c.bits.ensures g.met.B.BitBlock.width_law.positive

pub returns : goal.returns
returns g c =
    let law = g.met.B.BitBlock in
    let vs = c.args.entries.now in
    let at = (goal.at.returns g c).Else-used-eq0 in
    let last = number_at vs (length vs - 1) _ _ (some g at) c.index-entries-entries.is c.block_of-last.ensures.of_number in
    tail_test _ (g.B.PartialEq.eq c.shift_right.result c.zero.result) (g.B.BitBlock.number c.shift_right.result) (g.B.BitBlock.number c.zero.result) c.eq.ensures
    (law.eq_law c.shift_right.result c.zero.result c.shift_right.ensures.of_block c.zero.ensures.of_block) c.zero.ensures.of_number
    (zero_tail_by_shift _ c.args.len _ (numbers_of vs) law.width_law.positive (part g at) (counted vs ∙ c.requires.count) (law.number_law c.shift_right.result c.shift_right.ensures.of_block).0
    (rw (last, c.bits.ensures, ← counted vs) at c.shift_right.ensures.of_digits))

pub bounds-entries-entries : goal.bounds-entries-entries
bounds-entries-entries g c = some g (goal.at.bounds-entries-entries g c).Else-used-eq0

pub block_of-last-requires : goal.block_of-last-requires
block_of-last-requires g c =
    subst (IsEntry g.B.BitBlock.width) (sym c.index-entries-entries.is)
    (All-get_or (IsEntry g.B.BitBlock.width) c.args.entries.now _ _ (some g (goal.at.block_of-last-requires g c).Else-used-eq0) c.requires.each)

pub shift_right-requires : goal.shift_right-requires
shift_right-requires g c = record { of_block = c.block_of-last.ensures.of_block; within = rw c.bits.ensures (mod-lt c.args.len g.met.B.BitBlock.width_law.positive) }

pub overflow_sub-entries : goal.overflow_sub-entries
overflow_sub-entries g c = omega (arith, some g (goal.at.overflow_sub-entries g c).Else-used-eq0)
