use Rattle.std.{proofs.Common.{◌+◌, length}, specs.Option.option_map_or}
use Rattle.bit_set.{specs.RangeReading.items_left, proofs.RangeTextLemmas.EndsAt}
use Rattle.bit_set.proofs.range_texts.end_of_ranges.Given as goal

-- the end of the ranges so far, and what is left, are those of the text
abbrev pub invariant-items : goal.invariant-items
invariant-items l = EndsAt l.text (items_left l.rest) l.end

abbrev pub decreases-items : goal.decreases-items
decreases-items l = option_map_or (λ text. length text.now + 1) l.rest 0
