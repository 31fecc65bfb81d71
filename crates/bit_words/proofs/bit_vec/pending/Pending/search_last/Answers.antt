use Rattle.std.proofs.Common.{◌≤◌, arith}
use Rattle.bit_words.proofs.{LastLemmas.{FindsLast-cut_at, found_within, IsCutAt, IsPending-cut_at}, bit_vec.pending.Pending.search_last.Goals.{After-keep_before, After-unwrap_or}}
use Rattle.bit_words.proofs.bit_vec.pending.Pending.search_last.Goals as goal

-- the block that was found is within what is left
within : (g : _) (c : After-unwrap_or g) → (c.args.self.now.index ≤ c.unwrap_or.result) × (c.unwrap_or.result ≤ c.args.self.now.end)
within g c =
    let found = found_within g.B.BitBlock.width g.B.BitBlock.number g.B.BitBlock.is_block _ _ _ _ _ c.requires.walk.hand.within c.find_last-found.ensures in
    (omega (arith, found, c.unwrap_or.ensures), omega (arith, found, c.unwrap_or.ensures))

pub keep_before-requires : goal.keep_before-requires
keep_before-requires g c =
    let inside = within g (goal.at.keep_before-requires g c).After-unwrap_or in
    record { from = inside.0; to = inside.1; of_block = c.requires.walk.hand.of_block }

-- what is left in hand and of the summary
cut : (g : _) (c : After-keep_before g)
    → IsCutAt g.B.BitBlock.width g.B.BitBlock.number g.B.BitBlock.is_block c.args.self.now.index c.args.self.now.end
    c.unwrap_or.result c.args.self.now.bits c.keep_before.new.self.bits c.args.blocks.now c.args.self.now.summary.left
    c.keep_before.new.self.summary.left
cut g c = record {
  before = c.requires.walk;
  of_block = c.keep_before.ensures.of_block;
  cut = c.keep_before.ensures.digits;
  left = c.keep_before.ensures.stored;
}

pub returns-clause-walk : goal.returns-clause-walk
returns-clause-walk g c =
    let inside = within g (goal.at.returns-clause-walk g c).After-unwrap_or in
    rw (c.keep_before.ensures.end, c.keep_before.ensures.index)
    (IsPending-cut_at _ _ _ _ _ _ _ _ _ _ _ g.met.B.BitBlock.width_law.positive inside.0 inside.1 (cut g (goal.at.returns-clause-walk g c).After-keep_before))

pub returns-clause-found : goal.returns-clause-found
returns-clause-found g c =
    rw c.keep_before.ensures.end
    (FindsLast-cut_at _ _ _ _ _ _ _ _ _ _ _ c.find_last-found.result (cut g (goal.at.returns-clause-found g c).After-keep_before) c.unwrap_or.ensures c.find_last-found.ensures)
