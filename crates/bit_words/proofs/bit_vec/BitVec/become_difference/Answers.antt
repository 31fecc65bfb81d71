use Rattle.std.proofs.{Common.{◌≡◌, ap, ◌++◌, false, drop, replicate, length, take, arith}, lemmas.List.take_at}
use Rattle.bit_blocks.specs.{declared.block.merge.Merge.TheVariants.{Difference, Union}, Merges.merge_of}
use Rattle.bit_words.proofs.bit_vec.BitVec.become_difference.{Given.Over, Goals.After-become_difference}
use Rattle.bit_words.proofs.{FusedLemmas.{Holds, can_merge, holds_difference, kept_values}, StartLemmas.false_before_none}
use Rattle.bit_words.proofs.bit_vec.BitVec.become_difference.Goals as goal

pub become_difference-requires-clause-can : goal.become_difference-requires-clause-can
become_difference-requires-clause-can g c = rw (c.as_mut_slice.ensures.value, c.deref.ensures.value) (can_merge g.met.B.BitBlock.width_law.positive c.self.invariant.packed c.other.invariant.packed c.self.view_is c.other.view_is c.requires)

pub become_difference-requires-clause-except : goal.become_difference-requires-clause-except
become_difference-requires-clause-except g c = rw c.deref-3.ensures.value c.except.invariant.packed.each

pub become_difference-requires-clause-summary : goal.become_difference-requires-clause-summary
become_difference-requires-clause-summary g c = rw c.as_mut_slice.ensures.value c.self.invariant.summary

-- what the blocks became
made : (g : Over) (c : After-become_difference g) → Holds g.B.BitBlock.width g.B.BitBlock.number g.B.BitBlock.is_block c.become_difference.new.blocks c.self.inside.len
    (merge_of Union (replicate (length c.args.self.now.values) false) (merge_of Difference c.args.other.now.values (take (length c.args.other.now.values) c.args.except.now.values)))
made g c =
    holds_difference g.met.B.BitBlock.width_law.positive c.self.invariant.packed c.other.invariant.packed c.self.view_is c.other.view_is c.requires
    c.except.invariant.packed c.except.view_is _ (rw (c.as_mut_slice.ensures.value, c.deref.ensures.value, c.deref-3.ensures.value) at c.become_difference.ensures.has)

pub invariant_of-self : goal.invariant_of-self
invariant_of-self g c =
    let ys = c.become_difference.new.blocks in
    let old = c.self.inside.blocks in
    let back : take old.len (ys ++ drop (length ys) old.items) ≡ ys = take_at ys _ old.len (omega arith) in
    rw back (record { packed = (made g (goal.at.invariant_of-self g c).After-become_difference).packed; summary = c.become_difference.ensures.summary; start = λ _. false_before_none _ _ })

pub returns : goal.returns
returns g c =
    let ys = c.become_difference.new.blocks in
    let old = c.self.inside.blocks in
    let back : take old.len (ys ++ drop (length ys) old.items) ≡ ys = take_at ys _ old.len (omega arith) in
    let now = made g (goal.at.returns g c).After-become_difference in
    rw back (record {
      values = now.same;
      kept = kept_values (λ x is. (g.met.B.BitBlock.number_law x is).0) c.self.invariant.packed c.self.view_is now.packed (rw c.as_mut_slice.ensures.value at c.become_difference.ensures.kept);
      capacity = rw c.become_difference.ensures.capacity (ap (λ v. v.capacity) c.self.view_is);
    })
