use Rattle.std.proofs.{Common.{◌≡◌, ap, ◌++◌, drop, length, take, arith}, lemmas.List.take_at}
use Rattle.bit_blocks.specs.Merges.{merge_of}
use Rattle.bit_words.proofs.bit_vec.BitVec.merge.{Given.Over, Goals.After-merge_named}
use Rattle.bit_words.proofs.{FusedLemmas.{Holds, can_merge, holds_merged}, StartLemmas.false_before_none}
use Rattle.bit_words.proofs.bit_vec.BitVec.merge.Goals as goal

pub merge_named-requires : goal.merge_named-requires
merge_named-requires g c = record {
  can = rw (c.as_mut_slice.ensures.value, c.deref.ensures.value) (can_merge g.met.B.BitBlock.width_law.positive c.self.invariant.packed c.other.invariant.packed c.self.view_is c.other.view_is c.requires);
  summary = rw (c.as_mut_slice.ensures.value, c.as_mut_slice-2.ensures.value) c.self.invariant.summary;
  other_summary = rw (c.deref.ensures.value, c.deref-2.ensures.value) c.other.invariant.summary;
}

-- what the blocks became
made : (g : Over) (c : After-merge_named g) → Holds g.B.BitBlock.width g.B.BitBlock.number g.B.BitBlock.is_block c.merge_named.new.blocks c.self.inside.len
    (merge_of c.args.merge c.args.self.now.values c.args.other.now.values)
made g c = holds_merged g.met.B.BitBlock.width_law.positive c.self.invariant.packed c.other.invariant.packed c.self.view_is c.other.view_is c.requires c.args.merge _ (rw (c.as_mut_slice.ensures.value, c.deref.ensures.value) at c.merge_named.ensures.has)

pub invariant_of-self : goal.invariant_of-self
invariant_of-self g c =
    let ys = c.merge_named.new.blocks in
    let summary = c.merge_named.new.summary in
    let old = c.self.inside.blocks in
    let old_summary = c.self.inside.summary in
    let back : take old.len (ys ++ drop (length ys) old.items) ≡ ys = take_at ys _ old.len (omega arith) in
    let back_summary : take old_summary.len (summary ++ drop (length summary) old_summary.items) ≡ summary = take_at summary _ old_summary.len (omega arith) in
    rw (back, back_summary) (record { packed = (made g (goal.at.invariant_of-self g c).After-merge_named).packed; summary = c.merge_named.ensures.summary; start = λ _. false_before_none _ _ })

pub returns : goal.returns
returns g c =
    let ys = c.merge_named.new.blocks in
    let old = c.self.inside.blocks in
    let back : take old.len (ys ++ drop (length ys) old.items) ≡ ys = take_at ys _ old.len (omega arith) in
    let now = made g (goal.at.returns g c).After-merge_named in
    rw back (record {
      values = now.same;
      capacity = ap (λ v. v.capacity) c.self.view_is;
    })
