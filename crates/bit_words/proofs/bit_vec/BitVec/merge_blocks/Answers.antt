use Rattle.std.proofs.{Common.{◌≡◌, ◌++◌, drop, length, take, arith}, lemmas.List.take_at}
use Rattle.bit_blocks.{specs.Merges.merge_of, proofs.VectorLemmas.length_from_view}
use Rattle.bit_words.proofs.bit_vec.BitVec.merge_blocks.{Given.Over, Goals.After-merge_counted}
use Rattle.bit_words.proofs.{FusedLemmas.{Holds, can_merge, holds_merged}, StartLemmas.false_before_none}
use Rattle.bit_words.proofs.bit_vec.BitVec.merge_blocks.Goals as goal

pub merge_counted-requires : goal.merge_counted-requires
merge_counted-requires g c = rw (c.as_mut_slice.ensures.value, c.deref.ensures.value) (record { can = can_merge g.met.B.BitBlock.width_law.positive c.self.invariant.packed c.other.invariant.packed c.self.view_is c.other.view_is c.requires })

-- what the blocks became
made : (g : Over) (c : After-merge_counted g) → Holds g.B.BitBlock.width g.B.BitBlock.number g.B.BitBlock.is_block c.merge_counted.new.blocks c.self.inside.len
    (merge_of c.args.merge c.args.self.now.values c.args.other.now.values)
made g c = holds_merged g.met.B.BitBlock.width_law.positive c.self.invariant.packed c.other.invariant.packed c.self.view_is c.other.view_is c.requires c.args.merge _ (rw (c.as_mut_slice.ensures.value, c.deref.ensures.value) at c.merge_counted.ensures.has)

pub invariant_of-self : goal.invariant_of-self
invariant_of-self g c =
    let ys = c.merge_counted.new.blocks in
    let old = c.self.inside.blocks in
    let back : take old.len (ys ++ drop (length ys) old.items) ≡ ys = take_at ys _ old.len (omega arith) in
    rw back (record { packed = (made g (goal.at.invariant_of-self g c).After-merge_counted).packed; summary = rw (c.deref-2.ensures.value, back) at c.remake_summary.ensures.summary; start = λ _. false_before_none _ _ })

pub returns-clause-values : goal.returns-clause-values
returns-clause-values g c =
    let ys = c.merge_counted.new.blocks in
    let old = c.self.inside.blocks in
    let back : take old.len (ys ++ drop (length ys) old.items) ≡ ys = take_at ys _ old.len (omega arith) in
    rw back (made g (goal.at.returns-clause-values g c).After-merge_counted).same

pub returns-clause-steps : goal.returns-clause-steps
returns-clause-steps g c = rw (length_from_view _ _ _ _ _ c.self.view_is) (omega (arith, c.self.invariant.packed.count))
