use Rattle.std.proofs.Common.{◌≡◌, ℕ, ◌+◌, ◌*◌, ◌<◌, ◌++◌, List, [], ◌∷◌, get_or, map, length, ◌∙◌, arith}
use Rattle.std.proofs.lemmas.List.{length-map, get_or_append_left, get_or-append_right, Elements.{All-same, All-push}}
use Rattle.bit_blocks.{specs.{Bytes.placed_value, Digits.is_one}, proofs.{ByteLemmas.blocks-placed, PackedLemmas.map-pushed}}
use Rattle.bit_blocks.proofs.packed.bytes.blocks_in_order.Goals as goal

-- one block more, after k of them
block_pushed : (w : ℕ) (ms ns : List ℕ) (m k : ℕ) (place : ℕ → ℕ) (bytes : List ℕ) → length ms ≡ k → ns ≡ ms ++ m ∷ []
    → ((j : ℕ) → j < w → is_one m j ≡ placed_value place bytes (k * w + j))
    → ((q j : ℕ) → q < k → j < w → is_one (get_or ms q 0) j ≡ placed_value place bytes (q * w + j)) → (q j : ℕ) → q < k + 1
    → j < w → is_one (get_or ns q 0) j ≡ placed_value place bytes (q * w + j)
block_pushed w ms ns m k place bytes len e digits before q j below index =
    grind (arith, e, get_or_append_left ms (m ∷ []) 0 q, get_or-append_right ms (m ∷ []) k q 0 len, before q j, digits j index)

pub loop-k-preserved : goal.loop-k-preserved
loop-k-preserved g c =
    let f = g.B.BitBlock.number in
    let is_block = g.B.BitBlock.is_block in
    record {
      count = omega arith;
      capacity = omega arith;
      each = All-same is_block _ _ c.push_reserved.ensures.items (All-push is_block _ _ c.loop-k.invariant.each c.block_of_bytes.ensures.of_block);
      digits = block_pushed g.B.BitBlock.width (map f c.loop-k.blocks.items) _
          (f c.block_of_bytes.result) c.loop-k.k g.T.ByteOrder.place c.args.bytes.now (rw length-map (omega arith))
          (map-pushed f _ _ _ c.push_reserved.ensures.items)
          (λ j index. c.block_of_bytes.ensures.digits j index ∙ c.bytes_of_block.ensures.values g.T.ByteOrder.place j index) c.loop-k.invariant.digits;
    }

pub returns-clause-values : goal.returns-clause-values
returns-clause-values g c =
    blocks-placed g.B.BitBlock.width (map g.B.BitBlock.number c.loop-k.blocks.items) g.T.ByteOrder.place c.args.bytes.now g.met.B.BitBlock.width_law.positive (rw length-map (omega arith))
    (λ q j h k. c.loop-k.invariant.digits q j (omega (arith, rw length-map at h)) k)
