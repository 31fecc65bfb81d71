use Rattle.std.proofs.{Common.{◌≡◌, refl, ap, ◌++◌, drop, length, take, arith}, lemmas.List.take_at}
use Rattle.bit_blocks.specs.{declared.block.merge.Merge.TheVariants.{Intersection, Union}, Merges.merge_of}
use Rattle.bit_words.proofs.bit_vec.BitVec.unite_intersection.{Given.Over, Goals.After-unite_common}
use Rattle.bit_words.proofs.{FusedLemmas.{Holds, fewer_blocks, holds_merged_within, kept_values}, StartLemmas.false_before_none}
use Rattle.bit_words.proofs.bit_vec.BitVec.unite_intersection.Goals as goal

pub unite_common-requires : goal.unite_common-requires
unite_common-requires g c = record {
  can =
      let fewer = fewer_blocks g.met.B.BitBlock.width_law.positive c.self.invariant.packed c.other.invariant.packed c.self.view_is c.other.view_is c.requires in
      rw (c.as_mut_slice.ensures.value, c.deref.ensures.value, c.deref-3.ensures.value) (record {
        fewer = omega (arith, fewer);
        each = c.self.invariant.packed.each;
        others = (c.other.invariant.packed.each, c.also.invariant.packed.each);
      });
  summary = rw (c.as_mut_slice.ensures.value, c.as_mut_slice-2.ensures.value) c.self.invariant.summary;
  first_summary = rw (c.deref.ensures.value, c.deref-2.ensures.value) c.other.invariant.summary;
  second_summary = rw (c.deref-3.ensures.value, c.deref-4.ensures.value) c.also.invariant.summary;
}

-- what the blocks became
made : (g : Over) (c : After-unite_common g) → Holds g.B.BitBlock.width g.B.BitBlock.number g.B.BitBlock.is_block c.unite_common.new.blocks c.self.inside.len
    (merge_of Union c.args.self.now.values (merge_of Intersection c.args.other.now.values (take (length c.args.other.now.values) c.args.also.now.values)))
made g c =
    holds_merged_within g.met.B.BitBlock.width_law.positive c.self.invariant.packed c.other.invariant.packed c.self.view_is c.other.view_is c.requires
    c.also.invariant.packed c.also.view_is _ Union Intersection (λ b. refl) (rw (c.as_mut_slice.ensures.value, c.deref.ensures.value, c.deref-3.ensures.value) at c.unite_common.ensures.has)

pub invariant_of-self : goal.invariant_of-self
invariant_of-self g c =
    let ys = c.unite_common.new.blocks in
    let summary = c.unite_common.new.summary in
    let old = c.self.inside.blocks in
    let old_summary = c.self.inside.summary in
    let back : take old.len (ys ++ drop (length ys) old.items) ≡ ys = take_at ys _ old.len (omega arith) in
    let back_summary : take old_summary.len (summary ++ drop (length summary) old_summary.items) ≡ summary = take_at summary _ old_summary.len (omega arith) in
    rw (back, back_summary) (record { packed = (made g (goal.at.invariant_of-self g c).After-unite_common).packed; summary = c.unite_common.ensures.summary; start = λ _. false_before_none _ _ })

pub returns : goal.returns
returns g c =
    let ys = c.unite_common.new.blocks in
    let old = c.self.inside.blocks in
    let back : take old.len (ys ++ drop (length ys) old.items) ≡ ys = take_at ys _ old.len (omega arith) in
    let now = made g (goal.at.returns g c).After-unite_common in
    rw back (record {
      values = now.same;
      kept = kept_values (λ x is. (g.met.B.BitBlock.number_law x is).0) c.self.invariant.packed c.self.view_is now.packed (rw c.as_mut_slice.ensures.value at c.unite_common.ensures.kept);
      capacity = ap (λ v. v.capacity) c.self.view_is;
    })
