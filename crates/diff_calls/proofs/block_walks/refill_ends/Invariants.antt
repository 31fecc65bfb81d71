use Rattle.diff_calls.proofs.block_walks.refill_ends.Given as goal

-- what is left of the blocks in hand is a block
abbrev pub invariant-loop-step : goal.invariant-loop-step
invariant-loop-step g l = record { front : g.B.BitBlock.is_block l.block; back : g.B.BitBlock.is_block l.back }
