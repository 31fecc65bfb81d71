use Rattle.std.proofs.{Common.{◌≤◌, map, length, sym, ◌∙◌, arith}, lemmas.List.{length-map}}
use Rattle.bit_blocks.specs.{declared.block.merge.Merge.TheVariants.{Union}, BlockMerges.{except_at, merge_at}}
use Rattle.bit_blocks.proofs.BlockMergeLemmas.{apart_here, all_same, except_none, finds_as, finds_further, finds_next}
use Rattle.bit_blocks.proofs.BlockMergeLemmas.{stay_as, stay_past_others}
use Rattle.bit_blocks.proofs.packed.changes.first_change_past_except.Goals as goal

pub returns : goal.returns
returns g c =
    let w = g.B.BitBlock.width in
    let f = g.B.BitBlock.number in
    let xs = c.args.blocks.now in
    let os = map f c.args.others.now in
    let es = map f c.args.except.now in
    let both = c.len-both.result in
    let end = length c.args.others.now in
    let goal_at = except_at os es in
    let short : both ≤ end = omega arith in
    let first = all_same w f 0 both _ xs _ (sym c.is_some.ensures ∙ c.if-is_some.false)
    (finds_as w f 0 both _ (merge_at Union f xs goal_at) xs _ (omega arith)
    (stay_as Union w f 0 both _ goal_at xs (λ k j _ below _. apart_here os es k j
    (omega (arith, length-map c.args.except.now f)))) c.changing_place-found.ensures) in
    let second = finds_as w f both end _ (merge_at Union f xs goal_at) xs _ short
    (stay_as Union w f both end _ goal_at xs (λ k j from below _. except_none os es k j
    (omega (arith, from, below, length-map c.args.except.now f)))) c.changing_place.ensures in
    let next = finds_next w f 0 both end _ xs _ (omega arith) first second in
    let all = finds_further w f 0 end (length xs) _ xs _ c.requires.can.fewer (stay_past_others w f end (length xs) os es xs (omega (arith, length-map c.args.others.now f))) next in
    record { within = next.within; stay = all.same; changes = all.differs; none = all.none }
