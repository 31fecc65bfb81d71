use Rattle.std.proofs.Common.{◌≡◌, ◌*◌, length, sym, ap, ◌∙◌, arith}
use Rattle.bit_blocks.{specs.Bits.blocks_for, proofs.{ByteLemmas.{byte_value-past, length-values_of_bytes, get_or-values_of_bytes}, StorageLemmas.values_of-same}}
use Rattle.bit_blocks.specs.Bits.{capacity_of}
use Rattle.bit_words.proofs.{CapacityLemmas.shared_whole, StartLemmas.false_before_none}
use Rattle.bit_words.proofs.bit_vec.BitVec.from_bytes_general.Goals as goal

pub invariant_of-result : goal.invariant_of-result
invariant_of-result g c =
    let len : c.in-Some.len ≡ 8 * length c.args.bytes.now = omega (arith, c.in-Some.ensures) in
    record {
      packed = record {
        each = c.in_ok-blocks.ensures.each;
        count = c.in_ok-blocks.ensures.len ∙ ap (blocks_for g.B.BitBlock.width) (sym len);
        tail = record { zero_tail = λ i past. c.in_ok-blocks.ensures.values i ∙ byte_value-past c.args.bytes.now i (omega arith) };
        fits = omega arith;
      };
      summary = rw c.deref.ensures.value at c.in_ok-summary.ensures.summary;
      start = λ _. false_before_none _ _;
    }

pub returns-clause-values : goal.returns-clause-values
returns-clause-values g c =
    let len : c.in-Some.len ≡ 8 * length c.args.bytes.now = omega (arith, c.in-Some.ensures) in
    values_of-same _ _ _ _ (length-values_of_bytes c.args.bytes.now ∙ sym len) (λ i below. c.in_ok-blocks.ensures.values i ∙ sym (get_or-values_of_bytes c.args.bytes.now i))

pub returns-clause-capacity : goal.returns-clause-capacity
returns-clause-capacity g c =
    let summary = rw (c.deref.ensures.value, c.in_ok-blocks.ensures.len) at c.in_ok-summary.ensures.capacity in
    ap (capacity_of g.B.BitBlock.width) (shared_whole g.B.BitBlock.width _ _ _ g.met.B.BitBlock.width_law.positive c.in_ok-blocks.ensures.capacity summary)
