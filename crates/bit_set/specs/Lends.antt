-- What a set is once its bit vector was lent.
use Rattle.std.specs.{Prelude.{ℕ, Bool}, Borrow.{Fml, Lends, MutBor, RattleType}}
use Rattle.bit_blocks.specs.Bits.{Bits}
use Rattle.bit_words.specs.contracts.bit_vec.BitVec as bit_vec
use Rattle.bit_set.specs.contracts.set.BitSet as bit_set

-- what a clause has as B.BitBlock
abbrev pub BlockMembers : Type 0 → Type 1
BlockMembers B = record {
  can_sub : B → B → Type 0;
  sub_gives : B → B → B → Type 0;
  can_add : B → B → Type 0;
  add_gives : B → B → B → Type 0;
  can_not : B → Type 0;
  not_gives : B → B → Type 0;
  can_bitxor : B → B → Type 0;
  bitxor_gives : B → B → B → Type 0;
  can_bitor : B → B → Type 0;
  bitor_gives : B → B → B → Type 0;
  can_bitand : B → B → Type 0;
  bitand_gives : B → B → B → Type 0;
  eq : B → B → Bool;
  width : ℕ;
  number : B → ℕ;
  block : ℕ → B;
  is_block : B → Type 0;
}

module _ (B : RattleType) (b : BlockMembers B.Denot) where
  -- the type of a bit vector and that of a set, as the logic holds them
  abbrev pub bits_row : RattleType
  bits_row =
      bit_vec.the_row B (record { width = b.width; number = b.number; block = b.block; is_block = b.is_block })
      (record { eq = b.eq }) (record { can_bitand = b.can_bitand; bitand_gives = b.bitand_gives })
      (record { can_bitor = b.can_bitor; bitor_gives = b.bitor_gives })
      (record { can_bitxor = b.can_bitxor; bitxor_gives = b.bitxor_gives })
      (record { can_not = b.can_not; not_gives = b.not_gives })
      (record { can_add = b.can_add; add_gives = b.add_gives })
      (record { can_sub = b.can_sub; sub_gives = b.sub_gives })

  abbrev pub set_row : RattleType
  set_row =
      bit_set.the_row B (record { width = b.width; number = b.number; block = b.block; is_block = b.is_block })
      (record { eq = b.eq }) (record { can_bitand = b.can_bitand; bitand_gives = b.bitand_gives })
      (record { can_bitor = b.can_bitor; bitor_gives = b.bitor_gives })
      (record { can_bitxor = b.can_bitxor; bitxor_gives = b.bitxor_gives })
      (record { can_not = b.can_not; not_gives = b.not_gives })
      (record { can_add = b.can_add; add_gives = b.add_gives })
      (record { can_sub = b.can_sub; sub_gives = b.sub_gives })

  -- the set is what was last written through r
  abbrev pub lends_bits : MutBor Bits → MutBor Bits → Fml
  lends_bits set r = Lends set_row bits_row set r (λ bits. bits)
