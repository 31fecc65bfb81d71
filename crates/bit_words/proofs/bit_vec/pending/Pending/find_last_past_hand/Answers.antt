use Rattle.std.proofs.Common.{◌+◌, arith}
use Rattle.bit_words.proofs.LastLemmas.{last_from_start, none_from_start}
use Rattle.bit_words.proofs.bit_vec.pending.Pending.find_last_past_hand.Goals as goal

pub returns-then-self-bits : goal.returns-then-self-bits
returns-then-self-bits g c = λ j from below. absurd (omega (arith, from, below, c.if-self-bits.true, c.bits.ensures))

pub returns-in_err-found : goal.returns-in_err-found
returns-in_err-found g c =
    rw c.from_residual.ensures
    (none_from_start g.B.BitBlock.number c.args.blocks.now (c.args.self.now.index + g.B.BitBlock.width) c.args.self.now.end _ (rw c.bits-2.ensures at c.last_used_from.ensures) c.in_err-found.was)

pub returns : goal.returns
returns g c =
    rw c.bits-2.ensures
    (last_from_start g.B.BitBlock.number c.args.blocks.now
    (c.args.self.now.index + g.B.BitBlock.width) c.args.self.now.end _ c.in_ok-found.found
    (rw c.bits-2.ensures at c.last_used_from.ensures) c.in_ok-found.was)

pub last_used_from-requires : goal.last_used_from-requires
last_used_from-requires g c =
    let is = c.requires in
    rw c.bits-2.ensures (record {
      within = omega (arith, c.if-self-bits.false, c.bits.ensures);
      chunk = omega arith;
      to = is.hand.ends;
      fits = is.hand.fits;
      each = is.hand.each;
      stored = rw c.as_slice.ensures is.stored;
    })
