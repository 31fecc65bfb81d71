use Rattle.std.proofs.{Common.{◌≡◌, ◌+◌, ◌<◌, length, map, refl, sym, ap₂, ◌∙◌, arith}, lemmas.List.{length-map}}
use Rattle.bit_blocks.specs.{Digits.is_one, Merges.merge_of_values}
use Rattle.bit_matrix.proofs.PartLemmas.{block_merged, of_not, still_write, reported_more, reported_same}
use Rattle.bit_matrix.proofs.merges.merge_same.Goals as goal

pub loop-k-preserved : goal.loop-k-preserved
loop-k-preserved g c =
    let w = g.B.BitBlock.width in
    let f = g.B.BitBlock.number in
    let m = g.O.Operation.merge in
    let k = c.loop-k.k in
    let before = c.loop-k.invariant in
    let ms = map f c.args.blocks.now in
    let ns = map f c.loop-k.blocks in
    let now = c.block_at-block.ensures.of_number in
    let was = now ∙ still_write m w c.args.start c.args.start k ms ms ns before.merged in
    let within : c.args.start + k < length ns = omega (arith, length-map c.loop-k.blocks f) in
    record {
      merged = block_merged m w c.args.start c.args.start k _ ms ms ns _ within c.put_in.ensures.numbers before.merged
          (λ j inside. c.of_blocks-merged.ensures.digits j inside
          ∙ ap₂ (λ a b. merge_of_values m (is_one a j) (is_one b j)) was was);
      none = reported_more c.args.start k _ _ ms ns _ _ _ within c.put_in.ensures.numbers (sym now) (sym was) before.none c.or_mismatch-mismatch.ensures.none;
      of_block = c.or_mismatch-mismatch.ensures.of_block;
      each = c.put_in.ensures.each;
      len = c.put_in.ensures.len ∙ before.len;
    }

pub returns : goal.returns
returns g c =
    let end : c.loop-k.k ≡ c.args.count = omega arith in
    let tells = reported_same c.same.result _ _ _ c.same.ensures c.zero.ensures.of_number (rw end at c.loop-k.invariant.none) in
    record {
      merged = rw end at c.loop-k.invariant.merged;
      unchanged = (λ no. tells.0 (of_not no), λ all. let yes = tells.1 all in rw yes refl);
      each = c.loop-k.invariant.each;
      len = c.loop-k.invariant.len;
    }
