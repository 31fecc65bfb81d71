use Rattle.std.proofs.{Common.{◌≡◌, ◌++◌, length, map, refl, ap, ◌∙◌, arith, rules}, lemmas.List.{Elements.All-append, length-map}}
use Rattle.bit_matrix.proofs.{PartLemmas.{IsPut, is_put, kept_part, part_merged, part_stays, whole_part}, merges.merge_others.Goals.{After-merge_blocks}}
use Rattle.bit_matrix.proofs.merges.merge_others.Goals as goal

-- the blocks that are merged stand between others
put : (g : _) (c : After-merge_blocks g) → IsPut c.args.write (map g.B.BitBlock.number c.split_at_mut-part.result.0.now)
    (map g.B.BitBlock.number c.merge_blocks.new.blocks) (map g.B.BitBlock.number c.args.blocks.now)
    (map g.B.BitBlock.number
    (c.split_at_mut-back.result.0.now ++ (c.merge_blocks.new.blocks ++ c.split_at_mut-part.result.1.now)))
put g c =
    let whole = c.split_at_mut-back.ensures.value ∙ ap (λ ys. c.split_at_mut-back.result.0.now ++ ys) c.split_at_mut-part.ensures.value in
    rw whole (is_put g.B.BitBlock.number c.split_at_mut-back.result.0.now c.split_at_mut-part.result.0.now
    c.merge_blocks.new.blocks c.split_at_mut-part.result.1.now c.args.write c.split_at_mut-back.ensures.front_len
    c.merge_blocks.ensures.has.len)

long : (g : _) (c : After-merge_blocks g) → length (map g.B.BitBlock.number c.split_at_mut-part.result.0.now) ≡ length c.args.others.now
long g c = length-map c.split_at_mut-part.result.0.now g.B.BitBlock.number ∙ c.split_at_mut-part.ensures.front_len

pub returns : goal.returns
returns g c =
    let at = (goal.at.returns g c).After-merge_blocks in
    let m = g.O.Operation.merge in
    let w = g.B.BitBlock.width in
    let P = g.B.BitBlock.is_block in
    let n = length c.args.others.now in
    let part = whole_part m w _ _ n _ c.args.others.now _ c.merge_blocks.ensures.has in
    let as_long = length-map c.merge_blocks.new.blocks g.B.BitBlock.number ∙ c.merge_blocks.ensures.has.len ∙ c.split_at_mut-part.ensures.front_len in
    record {
      merged = part_merged m w c.args.write 0 c.args.write 0 n _ _ _ _ _ _ (omega arith) (put g at) part (omega (arith, long g at)) (λ k below. refl);
      unchanged = part_stays c.args.write 0 c.args.write n _ _ _ _ _ (omega arith) (put g at) (omega (arith, long g at)) (kept_part n _ _ _ (long g at) as_long c.merge_blocks.ensures.kept);
      each = All-append P _ _ (search rules) (All-append P _ _ c.merge_blocks.ensures.has.each (search rules));
      len = search rules;
    }
