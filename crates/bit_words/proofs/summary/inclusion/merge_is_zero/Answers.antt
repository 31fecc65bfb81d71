use Rattle.std.proofs.{Common.{◌+◌, ◌*◌, ◌≤◌, length, map, max, refl, arith, mul-le-mul_right}, lemmas.Bool.false≢true}
use Rattle.bit_blocks.{specs.Bits.blocks_for, proofs.BitsLemmas.{blocks_for-enough, blocks_for-le}}
use Rattle.bit_words.proofs.MergedOnesLemmas.{false_where_none, merged_parts, merged_zero, none_where_false}
use Rattle.bit_words.proofs.summary.inclusion.merge_is_zero.Goals as goal

pub ones_at_chunk-requires-clause-in_blocks : goal.ones_at_chunk-requires-clause-in_blocks
ones_at_chunk-requires-clause-in_blocks g c =
    let most = blocks_for-le g.B.BitBlock.width c.merged_len.result (max (length c.args.blocks.now) (length c.args.others.now)) g.met.B.BitBlock.width_law.positive c.merged_len.ensures.within in
    omega (arith, most, c.block_count-q-end.ensures)

pub returns-then-ones_at_chunk-ne0 : goal.returns-then-ones_at_chunk-ne0
returns-then-ones_at_chunk-ne0 g c = (
  λ yes. absurd (false≢true yes),
  λ falses.
      let w = g.B.BitBlock.width in
      let q = c.loop-q.q in
      let none = none_where_false _ _ _ _ (q * w) ((q + 1) * w) falses in
      absurd (omega (arith, none, c.ones_at_chunk.ensures, c.if-ones_at_chunk-ne0.true)),
)

pub loop-q-preserved : goal.loop-q-preserved
loop-q-preserved g c =
    let w = g.B.BitBlock.width in
    let q = c.loop-q.q in
    let parts = merged_parts g.O.Operation.merge w (map g.B.BitBlock.number c.args.blocks.now) (map g.B.BitBlock.number c.args.others.now) 0 (q * w) ((q + 1) * w) (omega arith) (omega arith) in
    omega (arith, parts, c.ones_at_chunk.ensures, c.loop-q.invariant, c.if-ones_at_chunk-ne0.false)

pub returns : goal.returns
returns g c =
    let w = g.B.BitBlock.width in
    let pos = g.met.B.BitBlock.width_law.positive in
    let end = c.loop-q.q * w in
    let all : blocks_for w c.merged_len.result ≤ c.loop-q.q = omega (arith, c.block_count-q-end.ensures) in
    let past : c.merged_len.result ≤ end = omega (arith, blocks_for-enough w c.merged_len.result pos, mul-le-mul_right w all) in (
      λ _. false_where_none _ _ _ _ pos (λ n.
          merged_zero g.O.Operation.merge w (map g.B.BitBlock.number c.args.blocks.now) (map g.B.BitBlock.number c.args.others.now) end n c.loop-q.invariant
          (c.merged_len.ensures.past end (n + end) past)),
      λ _. refl,
    )
