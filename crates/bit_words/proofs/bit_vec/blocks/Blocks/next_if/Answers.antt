use Rattle.std.proofs.Common.{ℕ, ◌≡◌, ◌+◌, ◌<◌, ◌≤◌, ◌∙◌, Bool, true, false, not, None, Some, List, [], ◌∷◌, get_or, drop, length, sym, ap, ap₂, arith}
use Rattle.std.proofs.lemmas.{Bool.true≢false, List.{length-drop, get_or-drop, drop_all}}
use Rattle.std.{proofs.lemmas.List.drop_more, specs.Bool.then_some}
use Rattle.bit_words.proofs.bit_vec.blocks.Blocks.next_if.{Given.Over, Goals.{Joined-wanted, then-wanted, else-wanted, then-wanted-2, else-wanted-2}}
use Rattle.bit_words.proofs.bit_vec.blocks.Blocks.next_if.Goals as goal
use mir.Val.{bool_byte}

-- what the pull, where the block is wanted, leaves as it was, and that it is counted
joined : (g : Over) (c : Joined-wanted g) → (c.if-wanted.self-inside.at ≡ c.self.inside.at) × (c.if-wanted.self-inside.blocks.now ≡ c.self.inside.blocks.now)
    × (c.args.wanted ≡ true → c.if-wanted.self-inside.steps ≡ c.self.inside.steps + 1) × (c.args.wanted ≡ false → c.if-wanted.self-inside ≡ c.self.inside)
joined g c = elim c.if-wanted.branch [
  | then-wanted w ↦
      (ap (λ s. s.at) w.self-inside-is, ap (λ s. s.blocks.now) w.self-inside-is, λ on. ap (λ s. s.steps) w.self-inside-is ∙ w.tick.ensures, λ off. absurd (true≢false (sym w.if-wanted.true ∙ off)))
  | else-wanted w ↦ (ap (λ s. s.at) w.self-inside-is, ap (λ s. s.blocks.now) w.self-inside-is, λ on. absurd (true≢false (sym on ∙ w.if-wanted.false)), λ off. w.self-inside-is)
]

from_first : {X : Type 0} (i k : ℕ) (xs ys : List X) (x : X) → ys ≡ drop i xs → 0 < length ys → x ≡ get_or ys 0 x → k ≡ 1 → ys ≡ x ∷ drop (i + k) xs
from_first i k xs ys x rest some first one =
    let is : x ≡ get_or xs i x = first ∙ ap (λ zs. get_or zs 0 x) rest ∙ get_or-drop i xs 0 x ∙ ap (λ j. get_or xs j x) (let e : i + 0 ≡ i = omega arith in e) in
    rw one (rest ∙ drop_more xs i x (omega (arith, length-drop i xs, ap length rest, some)) ∙ ap (λ y. y ∷ drop (i + 1) xs) (sym is))

pub returns : goal.returns
returns g c =
    let (at, blocks, counted, still) = joined g (goal.at.returns g c).Joined-wanted in
    let i = c.if-wanted.self-inside.at in
    let xs = c.if-wanted.self-inside.blocks.now in
    let given : c.args.wanted ≡ true → c.if-wanted-2.result ≡ c.in-Some.next.now =
    elim c.if-wanted-2.branch
    [ then-wanted-2 w ↦ λ on. w.result-is | else-wanted-2 w ↦ λ on. absurd (true≢false (sym on ∙ w.if-wanted-2.false)) ] in
    let zero : c.args.wanted ≡ false → g.B.BitBlock.is_block c.if-wanted-2.result ×
    (g.B.BitBlock.number c.if-wanted-2.result ≡ 0) = elim c.if-wanted-2.branch
    [ then-wanted-2 w ↦ λ off. absurd (true≢false (sym w.if-wanted-2.true ∙ off)) | else-wanted-2 w ↦ λ off. rw w.result-is (w.zero-else-wanted-2.ensures.of_block, w.zero-else-wanted-2.ensures.of_number) ] in
    record {
      pulled = λ on.
          let one : c.from.result ≡ 1 = c.from.ensures ∙ ap bool_byte on in
          record {
            item = rw (given on)
                (sym (ap (λ s. s.left) c.self.view_is) ∙ sym (ap₂ drop at blocks) ∙ sym c.as_slice.ensures
                ∙ from_first i c.from.result xs c.as_slice.result.now _ c.as_slice.ensures c.in-Some.ensures.item.3.0
                c.in-Some.ensures.item.1 one);
            counted = omega (arith, counted on, ap (λ s. s.pulls) c.self.view_is);
          };
      zeros = λ off. zero off;
      same = λ off.
          let none : i + c.from.result ≡ i = omega (arith, c.from.ensures ∙ ap bool_byte off) in
          rw (none, still off) c.self.view_is;
    }

pub returns-in_default : goal.returns-in_default
returns-in_default g c =
    let (at, blocks, counted, still) = joined g (goal.at.returns-in_default g c).Joined-wanted in
    let none : c.as_slice.result.now ≡ [] = drop_all 0 c.as_slice.result.now c.in_default.ensures.item.3 in
    record {
      pulled = λ on.
          let nothing : c.then_some.result ≡ None = c.then_some.ensures ∙ ap (λ b. then_some (not b) c.zero.result) on in
          rw nothing (record {
            item = (sym (ap (λ s. s.left) c.self.view_is) ∙ sym (ap₂ drop at blocks) ∙ sym c.as_slice.ensures ∙ none, sym c.as_slice.ensures ∙ none);
            counted = omega (arith, counted on, ap (λ s. s.pulls) c.self.view_is);
          });
      zeros = λ off.
          let some : c.then_some.result ≡ Some c.zero.result = c.then_some.ensures ∙ ap (λ b. then_some (not b) c.zero.result) off in
          rw some (c.zero.ensures.of_block, c.zero.ensures.of_number);
      same = λ off. rw (still off) c.self.view_is;
    }

at_most_1 : (b : Bool) → bool_byte b ≤ 1
at_most_1 true = omega arith
at_most_1 false = omega arith

pub overflow_add-self : goal.overflow_add-self
overflow_add-self g c =
    record { fits = omega (arith, c.from.ensures, at_most_1 c.args.wanted, length-drop c.if-wanted.self-inside.at c.if-wanted.self-inside.blocks.now, ap length c.as_slice.ensures, c.in-Some.ensures.item.3.0) }

pub invariant_of-self-2 : goal.invariant_of-self-2
invariant_of-self-2 g c =
    omega (arith, c.from.ensures, at_most_1 c.args.wanted, length-drop c.if-wanted.self-inside.at c.if-wanted.self-inside.blocks.now, ap length c.as_slice.ensures, c.in-Some.ensures.item.3.0)
