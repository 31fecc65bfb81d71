use Rattle.std.proofs.Common.{◌≡◌, ◌+◌, ◌*◌, ◌/◌, ◌%◌, ◌^◌, ◌<◌, length, refl, arith}
use Rattle.bit_blocks.proofs.BlockMergeLemmas.{kept_stay}
use Rattle.bit_matrix.specs.Merges.{IsTrackedMerge}
use Rattle.bit_matrix.proofs.{PartLemmas.{tracked_more, of_not, stay_kept, reported_same}, merges.merge_blocks.Goals.{After-merge_each-mismatch}}
use Rattle.bit_matrix.proofs.merges.merge_blocks.Goals as goal

-- all of the blocks, by the groups
merged : (g : _) (c : After-merge_each-mismatch g)
    → IsTrackedMerge g.O.Operation.merge g.B.BitBlock.width g.B.BitBlock.number g.B.BitBlock.is_block 0
    (length c.args.others.now) c.args.blocks.now c.args.others.now c.merge_each-mismatch.new.blocks c.zero.result
    c.merge_each-mismatch.result
merged g c =
    let n = length c.args.others.now in
    let most : n / 16 * 16 + n % 16 / 4 * 4 ≡ n / 4 * 4 = omega arith in
    let all : n / 4 * 4 + n % 4 ≡ n = omega arith in
    let second = tracked_more _ _ _ _ 0 (n / 16 * 16) (n / 4 * 4) _ _ _ _ _ _ _ _ _ (omega arith) (omega arith) refl most c.merge_groups-first.ensures c.merge_fours-second.ensures in
    tracked_more _ _ _ _ 0 (n / 4 * 4) n _ _ _ _ _ _ _ _ _ (omega arith) (omega arith) refl all second c.merge_each-mismatch.ensures

pub returns-clause-has : goal.returns-clause-has
returns-clause-has g c =
    let at = (goal.at.returns-clause-has g c).After-merge_each-mismatch in
    (merged g at).has

pub returns-clause-kept : goal.returns-clause-kept
returns-clause-kept g c =
    let at = (goal.at.returns-clause-kept g c).After-merge_each-mismatch in
    let is = merged g at in
    let law : (x : g.row.B.Denot) → g.B.BitBlock.is_block x → g.B.BitBlock.number x < 2 ^ g.B.BitBlock.width = λ x is. (g.met.B.BitBlock.number_law x is).0 in
    let tells = reported_same c.same.result _ _ _ c.same.ensures c.zero-2.ensures.of_number is.none in (
      λ no. stay_kept _ _ _ _ 0 _ _ _ _ law c.requires.can.each is.has (tells.0 (of_not no)).1,
      λ kept. let yes = tells.1 (c.zero.ensures.of_number, kept_stay _ _ _ _ _ _ _ _ _ is.has kept) in rw yes refl,
    )
