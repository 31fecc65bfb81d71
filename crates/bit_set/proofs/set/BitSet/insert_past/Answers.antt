use Rattle.std.proofs.{Common.{◌≡◌, ◌≤◌, ◌-◌, ◌++◌, ℕ, true, false, length, length-append, replicate, sym, ap, subst, ◌∙◌, arith}, lemmas.List.length-replicate}
use Rattle.bit_blocks.{specs.Bits.Bits, proofs.RangeLemmas.length-changed}
use Rattle.set_algebra.{specs.{Members.UpdatesRange, Sets.elements}, proofs.{RangeLemmas.{members_changed, members_filled, none_filled}, SetLemmas.elements-padded}}
use Rattle.bit_set.proofs.set.BitSet.insert_past.Goals.{then-range-len, else-range-len}
use Rattle.bit_set.proofs.set.BitSet.insert_past.Goals as goal

-- the list has what the range has below its end, and reaches as far as the range begins
record IsBegun (a b : ℕ) (old mid : Bits) : Type 0 where
  reaches : a ≤ length mid.values
  within : length mid.values ≤ b
  members : UpdatesRange (λ _. true) (elements old.values) (elements mid.values) a (length mid.values)

begun : (g : _) (c : goal.After-unwrap-2 g) → IsBegun c.args.range.start c.args.range.end c.args.self.now c.if-range-len.self-inside.bits
begun g c =
    let a = c.args.range.start in
    let old = c.args.self.now.values in
    let same : c.reserve.new.self.values ≡ old = c.in_ok-reserve.ensures.values ∙ ap (λ bits. bits.values) c.self.view_is in
    let long : length old ≡ c.len-len.result = ap (λ bits. length bits.values) (sym c.self.view_is) ∙ sym c.len-len.ensures.value in
    elim c.if-range-len.branch [
      | then-range-len w ↦
          let grown : w.grow.new.self.values ≡ old ++ replicate (a - c.len-len.result) false = rw same at (rw w.unwrap.ensures at w.grow.ensures.ok) in
          let size = simp (length-append, length-replicate) at (ap length grown) in
          let reached : length w.grow.new.self.values ≡ a = omega (arith, size, long, w.if-range-len.true) in
          rw w.self-inside-is record {
            reaches = omega (arith, reached);
            within = omega (arith, reached, c.requires.some);
            members = none_filled a old w.grow.new.self.values (ap elements grown ∙ elements-padded old _) reached;
          }
      | else-range-len w ↦
          let filled = w.fill_range.ensures.values in
          let size : length w.fill_range.new.self.values ≡ c.len-len.result =
          ap length filled ∙ length-changed (λ _. true) a c.len-len.result c.reserve.new.self.values (λ _. omega (arith, ap length same, long)) ∙ ap length same ∙ long in
          rw w.self-inside-is record {
            reaches = omega (arith, size, w.if-range-len.false);
            within = omega (arith, size, long, c.requires.past);
            members = subst (UpdatesRange (λ _. true) (elements old) (elements w.fill_range.new.self.values) a) (sym size)
                (members_changed (λ _. true) a c.len-len.result (elements old) c.reserve.new.self.values w.fill_range.new.self.values (ap elements same)
                (λ _. omega (arith, ap length same, long)) filled);
          }
    ]

pub returns-clause-members : goal.returns-clause-members
returns-clause-members g c =
    let begins = begun g c in
    members_filled c.args.range.start c.args.range.end c.args.self.now.values c.if-range-len.self-inside.bits.values c.grow-2.new.self.values
    begins.reaches begins.within begins.members (rw c.len-start.ensures.value at (rw c.unwrap-2.ensures at c.grow-2.ensures.ok))
