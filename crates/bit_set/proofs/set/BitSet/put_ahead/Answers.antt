use Rattle.std.proofs.{Common.{◌≡◌, ◌<◌, ◌≤◌, ℕ, ◌+◌, ◌-◌, true, max, length, length-set, length-append, ap, ◌∙◌, refl, arith}, lemmas.List.length-replicate}
use Rattle.bit_blocks.specs.Bits.{Bits}
use Rattle.set_algebra.{specs.Sets.{elements, put}, proofs.SetLemmas.{elements-padded, elements-set_true}}
use Rattle.bit_set.specs.declared.set.changing.TheConstants.{LEAST_GROWN}
use Rattle.bit_set.proofs.set.BitSet.put_ahead.Goals.{then-item-len+in_ok-lengthen_past, else-item-len}
use Rattle.bit_set.proofs.set.BitSet.put_ahead.Goals as goal

-- the set once it is long enough for the item
record IsLong (start item : ℕ) (old mid : Bits) : Type 0 where
  same : elements mid.values ≡ elements old.values
  within : item < length mid.values
  exact : length mid.values ≤ start + LEAST_GROWN → length mid.values ≡ max (length old.values) (item + 1)

long : (g : _) (c : goal.After-set g) → IsLong c.args.start c.args.item c.args.self.now c.if-item-len.self
long g c =
    let len = c.requires.len in
    elim c.if-item-len.branch [
      | then-item-len+in_ok-lengthen_past w ↦
          let grown = w.in_ok-lengthen_past.ensures.values in
          let size = simp (length-append, length-replicate) at (ap length grown) in
          rw w.self-is record {
            same = w.go_ahead.ensures.kept.members ∙ ap elements grown ∙ elements-padded c.args.self.now.values _;
            within = omega (arith, size, w.go_ahead.ensures.longer);
            exact = λ short.
                let few = λ (is : c.args.len - c.args.start < LEAST_GROWN). ap (λ bits. length bits.values) (w.go_ahead.ensures.few is) in
                grind (arith, size, w.go_ahead.ensures.longer, few, short, len, c.requires.from);
          }
      | else-item-len w ↦ rw w.self-is record { same = refl; within = omega (arith, len); exact = λ short. omega (arith, len) }
    ]

pub returns-clause-elements : goal.returns-clause-elements
returns-clause-elements g c =
    rw (c.set.ensures.values, c.self-2.view_is) (elements-set_true c.if-item-len.self.values c.args.item (long g c).within ∙ ap (λ s. put s c.args.item) (long g c).same)

pub returns-clause-exact : goal.returns-clause-exact
returns-clause-exact g c = λ short.
    let kept = ap length c.set.ensures.values ∙ length-set c.self-2.inside.bits.values c.args.item true ∙ ap (λ bits. length bits.values) c.self-2.view_is in
    kept ∙ (long g c).exact (omega (arith, short, kept))
