use Rattle.std.proofs.{Common.{◌≡◌, refl, ap, ◌++◌, drop, length, take, arith}, lemmas.List.take_at}
use Rattle.bit_blocks.specs.{declared.block.merge.Merge.TheVariants.{Difference, Union}, Merges.merge_of}
use Rattle.bit_words.proofs.bit_vec.BitVec.unite_difference.{Given.Over, Goals.After-unite_difference}
use Rattle.bit_words.proofs.{FusedLemmas.{Holds, can_merge, holds_merged_within, kept_values}, StartLemmas.false_before_none}
use Rattle.bit_words.proofs.bit_vec.BitVec.unite_difference.Goals as goal

pub unite_difference-requires : goal.unite_difference-requires
unite_difference-requires g c = record {
  can = rw (c.as_mut_slice.ensures.value, c.deref.ensures.value) (can_merge g.met.B.BitBlock.width_law.positive c.self.invariant.packed c.other.invariant.packed c.self.view_is c.other.view_is c.requires);
  except = rw c.deref-2.ensures.value c.except.invariant.packed.each;
  summary = rw (c.as_mut_slice.ensures.value, c.as_mut_slice-2.ensures.value) c.self.invariant.summary;
  other_summary = rw c.deref.ensures.value c.other.invariant.summary;
  except_summary = rw c.deref-2.ensures.value c.except.invariant.summary;
}

-- what the blocks became
made : (g : Over) (c : After-unite_difference g) → Holds g.B.BitBlock.width g.B.BitBlock.number g.B.BitBlock.is_block c.unite_difference.new.blocks c.self.inside.len
    (merge_of Union c.args.self.now.values (merge_of Difference c.args.other.now.values (take (length c.args.other.now.values) c.args.except.now.values)))
made g c =
    holds_merged_within g.met.B.BitBlock.width_law.positive c.self.invariant.packed c.other.invariant.packed c.self.view_is c.other.view_is c.requires
    c.except.invariant.packed c.except.view_is _ Union Difference (λ b. refl) (rw (c.as_mut_slice.ensures.value, c.deref.ensures.value, c.deref-2.ensures.value) at c.unite_difference.ensures.has)

pub invariant_of-self : goal.invariant_of-self
invariant_of-self g c =
    let ys = c.unite_difference.new.blocks in
    let summary = c.unite_difference.new.summary in
    let old = c.self.inside.blocks in
    let old_summary = c.self.inside.summary in
    let back : take old.len (ys ++ drop (length ys) old.items) ≡ ys = take_at ys _ old.len (omega arith) in
    let back_summary : take old_summary.len (summary ++ drop (length summary) old_summary.items) ≡ summary = take_at summary _ old_summary.len (omega arith) in
    rw (back, back_summary) (record { packed = (made g (goal.at.invariant_of-self g c).After-unite_difference).packed; summary = c.unite_difference.ensures.summary; start = λ _. false_before_none _ _ })

pub returns : goal.returns
returns g c =
    let ys = c.unite_difference.new.blocks in
    let old = c.self.inside.blocks in
    let back : take old.len (ys ++ drop (length ys) old.items) ≡ ys = take_at ys _ old.len (omega arith) in
    let now = made g (goal.at.returns g c).After-unite_difference in
    rw back (record {
      values = now.same;
      kept = kept_values (λ x is. (g.met.B.BitBlock.number_law x is).0) c.self.invariant.packed c.self.view_is now.packed (rw c.as_mut_slice.ensures.value at c.unite_difference.ensures.kept);
      capacity = ap (λ v. v.capacity) c.self.view_is;
    })
