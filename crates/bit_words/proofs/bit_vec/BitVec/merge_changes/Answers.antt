use Rattle.std.proofs.{Common.{◌≡◌, ap, ◌++◌, drop, length, take, arith}, lemmas.List.take_at}
use Rattle.bit_blocks.specs.Merges.{merge_of}
use Rattle.bit_words.proofs.bit_vec.BitVec.merge_changes.{Given.Over, Goals.After-change_named}
use Rattle.bit_words.proofs.{FusedLemmas.{Holds, can_merge, holds_merged, kept_values}, StartLemmas.false_before_none}
use Rattle.bit_words.proofs.bit_vec.BitVec.merge_changes.Goals as goal

pub change_named-requires : goal.change_named-requires
change_named-requires g c = record {
  can = rw (c.as_mut_slice.ensures.value, c.deref.ensures.value) (can_merge g.met.B.BitBlock.width_law.positive c.self.invariant.packed c.other.invariant.packed c.self.view_is c.other.view_is c.requires);
  summary = rw (c.as_mut_slice.ensures.value, c.as_mut_slice-2.ensures.value) c.self.invariant.summary;
  other_summary = rw (c.deref.ensures.value, c.deref-2.ensures.value) c.other.invariant.summary;
}

-- what the blocks became
made : (g : Over) (c : After-change_named g) → Holds g.B.BitBlock.width g.B.BitBlock.number g.B.BitBlock.is_block c.change_named.new.blocks c.self.inside.len
    (merge_of c.args.merge c.args.self.now.values c.args.other.now.values)
made g c = holds_merged g.met.B.BitBlock.width_law.positive c.self.invariant.packed c.other.invariant.packed c.self.view_is c.other.view_is c.requires c.args.merge _ (rw (c.as_mut_slice.ensures.value, c.deref.ensures.value) at c.change_named.ensures.has)

pub invariant_of-self : goal.invariant_of-self
invariant_of-self g c =
    let ys = c.change_named.new.blocks in
    let summary = c.change_named.new.summary in
    let old = c.self.inside.blocks in
    let old_summary = c.self.inside.summary in
    let back : take old.len (ys ++ drop (length ys) old.items) ≡ ys = take_at ys _ old.len (omega arith) in
    let back_summary : take old_summary.len (summary ++ drop (length summary) old_summary.items) ≡ summary = take_at summary _ old_summary.len (omega arith) in
    rw (back, back_summary) (record { packed = (made g (goal.at.invariant_of-self g c).After-change_named).packed; summary = c.change_named.ensures.summary; start = λ _. false_before_none _ _ })

pub returns : goal.returns
returns g c =
    let ys = c.change_named.new.blocks in
    let old = c.self.inside.blocks in
    let back : take old.len (ys ++ drop (length ys) old.items) ≡ ys = take_at ys _ old.len (omega arith) in
    let now = made g (goal.at.returns g c).After-change_named in
    rw back (record {
      values = now.same;
      kept = kept_values (λ x is. (g.met.B.BitBlock.number_law x is).0) c.self.invariant.packed c.self.view_is now.packed (rw c.as_mut_slice.ensures.value at c.change_named.ensures.kept);
      capacity = ap (λ v. v.capacity) c.self.view_is;
    })
