use Rattle.std.proofs.Common.{refl, arith}
use Rattle.bit_words.proofs.{LastLemmas.{FindsLast-last, IsPending-last, stored_few}, bit_vec.pending.Pending.last_block.Goals.{then-has_last, else-has_last+in_ok-search_last}}
use Rattle.bit_words.proofs.bit_vec.pending.Pending.last_block.Goals as goal

pub drop_last-requires : goal.drop_last-requires
drop_last-requires g c = record {
  past = c.if-has_last.ensures.past refl;
  few = stored_few g.B.BitBlock.width g.B.BitBlock.number g.B.BitBlock.is_block _ _ _ _ g.met.B.BitBlock.width_law.positive (omega (arith, c.if-has_last.ensures.past refl)) c.requires.walk.stored;
}

pub returns-clause-walk : goal.returns-clause-walk
returns-clause-walk g c =
    elim c.if-has_last.branch [
      | then-has_last w ↦
          let dropped = w.drop_last.ensures in
          rw (w.self-is, dropped.bits, dropped.index)
          (IsPending-last g.B.BitBlock.width g.B.BitBlock.number g.B.BitBlock.is_block _ _ _ _ _ _ _
          g.met.B.BitBlock.width_law.positive (w.if-has_last.ensures.past refl) dropped.end c.requires.walk dropped.stored)
      | else-has_last+in_ok-search_last w ↦ rw w.self-is w.in_ok-search_last.ensures.walk
    ]

pub returns-clause-found : goal.returns-clause-found
returns-clause-found g c =
    elim c.if-has_last.branch [
      | then-has_last w ↦
          let dropped = w.drop_last.ensures in
          rw (w.self-is, dropped.bits)
          (FindsLast-last g.B.BitBlock.width g.B.BitBlock.number g.B.BitBlock.is_block _ _ _ _ _ _ _ (w.if-has_last.ensures.past refl) dropped.end c.requires.walk dropped.stored)
      | else-has_last+in_ok-search_last w ↦
          let found = w.in_ok-search_last.ensures.found in
          rw (w.self-is, found.inside.1) (rw found.inside.1 at found)
    ]
