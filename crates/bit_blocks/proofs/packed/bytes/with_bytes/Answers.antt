use Rattle.std.proofs.{Common.{◌+◌, ◌*◌, [], ◌∷◌, vec_len, ◌∙◌, arith}, lemmas.List.{get_or_append_left}}
use Rattle.bit_blocks.{specs.Digits.{is_one}, proofs.ByteLemmas.{byte_more, moved_down}}
use Rattle.bit_blocks.proofs.packed.bytes.with_bytes.Goals as goal

pub loop-p-preserved : goal.loop-p-preserved
loop-p-preserved g c =
    let before = c.loop-p.invariant in
    let n = vec_len c.args.bytes in
    let p = c.loop-p.p in
    let pushed = c.push_reserved.ensures.items in
    record {
      len = omega arith;
      capacity = omega arith;
      kept = λ q below. grind (arith, pushed, get_or_append_left c.loop-p.bytes.items (c.ordered.result ∷ []) 0 q, before.kept q below, before.len);
      digits = byte_more c.loop-p.bytes.items _ c.ordered.result n p g.T.ByteOrder.place (λ q j. is_one (g.B.BitBlock.number c.args.block) (8 * q + j)) (omega arith) pushed
          (λ j index. c.ordered.ensures.there j index ∙ c.lowest_byte.ensures j index
          ∙ moved_down _ _ _ _ p j c.shift_right.ensures.of_digits (omega arith)
          (omega (arith, index, c.requires.within))) before.digits;
    }
