use Rattle.std.proofs.Common.{◌≡◌, ◌*◌, length, ap, sym, ◌∙◌, arith}
use Rattle.bit_blocks.{specs.Bits.{blocks_for, capacity_of}, proofs.StorageLemmas.{value_at-past, length-values_of}}
use Rattle.bit_words.proofs.{CapacityLemmas.shared_whole, LowByteLemmas.blocks_of_bytes, StartLemmas.false_before_none}
use Rattle.bit_words.proofs.bit_vec.BitVec.from_bytes_lsb_general.Goals as goal

pub invariant_of-result : goal.invariant_of-result
invariant_of-result g c =
    let len : c.in-Some.len ≡ 8 * length c.args.bytes.now = omega (arith, c.in-Some.ensures) in
    record {
      packed = record {
        each = c.in_ok-blocks.ensures.each;
        count = c.in_ok-blocks.ensures.len ∙ ap (blocks_for g.B.BitBlock.width) (sym len);
        tail = record { zero_tail = λ i past. c.in_ok-blocks.ensures.values i ∙ value_at-past 8 c.args.bytes.now i (omega (arith, len, past)) };
        fits = omega arith;
      };
      summary = rw c.deref.ensures.value at c.in_ok-summary.ensures.summary;
      start = λ _. false_before_none _ _;
    }

pub returns-clause-values : goal.returns-clause-values
returns-clause-values g c = blocks_of_bytes _ _ _ c.args.bytes.now (omega (arith, c.in-Some.ensures)) (λ k. omega (arith, c.type_inv.bytes k)) c.in_ok-blocks.ensures.values

pub returns-clause-len : goal.returns-clause-len
returns-clause-len g c = length-values_of _ _ _ ∙ omega (arith, c.in-Some.ensures)

pub returns-clause-capacity : goal.returns-clause-capacity
returns-clause-capacity g c =
    let summary = rw (c.deref.ensures.value, c.in_ok-blocks.ensures.len) at c.in_ok-summary.ensures.capacity in
    ap (capacity_of g.B.BitBlock.width) (shared_whole g.B.BitBlock.width _ _ _ g.met.B.BitBlock.width_law.positive c.in_ok-blocks.ensures.capacity summary)
