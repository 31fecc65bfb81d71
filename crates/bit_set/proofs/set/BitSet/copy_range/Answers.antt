use Rattle.std.proofs.{Common.{◌≡◌, length, min, ap, ◌∙◌, arith}, lemmas.Bool.Decides.nat_tests}
use Rattle.bit_blocks.specs.Bits.{blocks_for, capacity_of}
use Rattle.set_algebra.specs.{Ranges.span_end, Sets.elements}
use Rattle.set_algebra.proofs.MovedLemmas.{elements-part, length-part, members_part, none_in_part}
use Rattle.bit_set.proofs.set.BitSet.copy_range.Goals as goal

pub returns-then-range-end-clause-elements : goal.returns-then-range-end-clause-elements
returns-then-range-end-clause-elements g c =
    ap elements c.new_general.ensures.values
    ∙ none_in_part c.args.range.start c.args.range.end c.args.self.now.values (rw (← c.self.view_is) (omega (arith, c.len.ensures.value, c.min-end.ensures, c.if-range-end.true)))

pub returns-then-range-end-clause-members : goal.returns-then-range-end-clause-members
returns-then-range-end-clause-members g c =
    members_part c.args.range.start c.args.range.end (elements c.args.self.now.values) _ (returns-then-range-end-clause-elements g c)

pub returns-clause-elements : goal.returns-clause-elements
returns-clause-elements g c =
    rw (← c.self.view_is) (elements-part c.args.range.start c.args.range.end c.min-end.result c.self.inside.bits.values c.in_ok-bits.bits.values
    (rw (← c.len.ensures.value) c.min-end.ensures) c.in_ok-bits.ensures.values)

pub returns-clause-members : goal.returns-clause-members
returns-clause-members g c = members_part c.args.range.start c.args.range.end (elements c.args.self.now.values) _ (returns-clause-elements g c)

pub returns-clause-size : goal.returns-clause-size
returns-clause-size g c =
    let long : length c.in_ok-bits.bits.values ≡ c.min-end.result = length-part c.args.range.start c.min-end.result c.self.inside.bits.values c.in_ok-bits.bits.values
    (omega (arith, c.if-range-end.false)) (omega (arith, c.min-end.ensures, c.len.ensures.value)) c.in_ok-bits.ensures.values in
    let whole : c.min-end.result ≡ min c.args.range.end (length c.args.self.now.values) = omega (arith, c.min-end.ensures, c.len.ensures.value, ap (λ bits. length bits.values) c.self.view_is) in
    let end : c.min-end.result ≡ span_end c.args.range.start (min c.args.range.end (length c.args.self.now.values)) = grind (arith, nat_tests, whole, c.if-range-end.false) in
    record { long = long ∙ end; capacity = c.in_ok-bits.ensures.capacity ∙ ap (λ n. capacity_of g.B.BitBlock.width (blocks_for g.B.BitBlock.width n)) end }
