use Rattle.std.proofs.{Common.{map, length, sym, ◌∙◌, arith}, lemmas.{Bool.{false≢true}, List.{length-map}}}
use Rattle.bit_blocks.{specs.BlockMerges.{except_at}, proofs.BlockMergeLemmas.{apart_here, all_same, except_none, except_past, finds_as, finds_first, finds_further, finds_next, finds_place, same_as}}
use Rattle.bit_blocks.proofs.packed.differences.first_difference_except.Goals as goal
use Rattle.bit_blocks.proofs.packed.differences.first_difference_except.Goals.{then-is_some-2-via-then-is_some-2, then-is_some-2-via-else-is_some-2+then-are_zeros_from}

pub returns-then-is_some-clause-finds : goal.returns-then-is_some-clause-finds
returns-then-is_some-clause-finds g c =
    let w = g.B.BitBlock.width in
    let f = g.B.BitBlock.number in
    let xs = c.args.blocks.now in
    let os = map f c.args.others.now in
    let es = map f c.args.except.now in
    let both = c.len-both.result in
    finds_first w f 0 both (length xs) _ xs _ (omega (arith, c.requires.can.fewer)) (sym c.is_some.ensures ∙ c.if-is_some.true)
    (finds_as w f 0 both _ (except_at os es) xs _ (omega arith) (λ k j _ below _. apart_here os es k j (omega (arith, below, length-map c.args.except.now f))) c.differing_place-found.ensures)

pub returns-then-is_some-2-clause-finds : goal.returns-then-is_some-2-clause-finds
returns-then-is_some-2-clause-finds g c =
    let w = g.B.BitBlock.width in
    let f = g.B.BitBlock.number in
    let xs = c.args.blocks.now in
    let os = map f c.args.others.now in
    let es = map f c.args.except.now in
    let both = c.len-both.result in
    let end = length c.args.others.now in
    let first = all_same w f 0 both _ xs _ (sym c.is_some.ensures ∙ c.if-is_some.false)
    (finds_as w f 0 both _ (except_at os es) xs _ (omega arith)
    (λ k j _ below _. apart_here os es k j (omega (arith, below, length-map c.args.except.now f)))
    c.differing_place-found.ensures) in
    let second = finds_as w f both end _ (except_at os es) xs _ (omega arith)
    (λ k j from below _. except_none os es k j (omega (arith, from, below, length-map c.args.except.now f)))
    c.differing_place-found-2.ensures in
    let next = finds_next w f 0 both end _ xs _ (omega arith) first second in
    elim c.then-is_some-2.branch [
      | then-is_some-2-via-then-is_some-2 v ↦ finds_first w f 0 end (length xs) _ xs _ c.requires.can.fewer (sym c.is_some-2.ensures ∙ v.if-is_some-2.true) next
      | then-is_some-2-via-else-is_some-2+then-are_zeros_from v ↦
          finds_further w f 0 end (length xs) _ xs _ c.requires.can.fewer
          (same_as w f end (length xs) _ (except_at os es) xs
          (λ k j from _ _. except_past os es k j (omega (arith, from, length-map c.args.others.now f)))
          (v.are_zeros_from.ensures.0 v.if-are_zeros_from.true)) next
    ]

pub returns-clause-finds : goal.returns-clause-finds
returns-clause-finds g c =
    let w = g.B.BitBlock.width in
    let f = g.B.BitBlock.number in
    let xs = c.args.blocks.now in
    let os = map f c.args.others.now in
    let es = map f c.args.except.now in
    let both = c.len-both.result in
    let end = length c.args.others.now in
    let first = all_same w f 0 both _ xs _ (sym c.is_some.ensures ∙ c.if-is_some.false)
    (finds_as w f 0 both _ (except_at os es) xs _ (omega arith)
    (λ k j _ below _. apart_here os es k j (omega (arith, below, length-map c.args.except.now f)))
    c.differing_place-found.ensures) in
    let second = finds_as w f both end _ (except_at os es) xs _ (omega arith)
    (λ k j from below _. except_none os es k j (omega (arith, from, below, length-map c.args.except.now f)))
    c.differing_place-found-2.ensures in
    let before = all_same w f 0 end _ xs _ (sym c.is_some-2.ensures ∙ c.if-is_some-2.false) (finds_next w f 0 both end _ xs _ (omega arith) first second) in
    finds_place w f 0 end (length xs) _ xs (omega arith) c.requires.can.fewer before (λ zeros.
    false≢true (sym c.if-are_zeros_from.false ∙ c.are_zeros_from.ensures.1 (same_as w f end (length xs)
    (except_at os es) _ xs (λ k j from _ _. sym (except_past os es k j
    (omega (arith, from, length-map c.args.others.now f)))) zeros)))
