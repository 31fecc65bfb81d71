use Rattle.std.proofs.Common.{◌≡◌, ℕ, ◌+◌, ◌&&◌, nat_le, nat_lt, not, List, ap, ◌∙◌}
use Rattle.bit_set.specs.{Ranges.span, Sets.has}
use Rattle.free_slots.specs.Slots.{without_run}
use Rattle.free_slots.proofs.RunLemmas.{given_where_held, held_once, held_where_full, held_where_taken, lowest_unheld, lowest_unheld_run, no_unheld_run}
use Rattle.free_slots.proofs.laws.whole_runs.Goals as goal

-- the members that are left where slots in a row are taken
without_run_members : (c : goal.After-numbers_of_ranges) (s : List ℕ) (first count m : ℕ) → has (without_run s count first) m ≡ (has s m && not (nat_le first m && nat_lt m (first + count)))
without_run_members c s first count m =
    c.members_of_merged_sets.ensures.difference s (span first (first + count)) m
    ∙ ap (λ b. has s m && not b) (c.numbers_of_ranges.ensures.members first (first + count) m)

pub returns-clause-once : goal.returns-clause-once
returns-clause-once c n slot events end run = held_once c.members_of_sets.ensures.put c.members_of_sets.ensures.without (without_run_members c) n slot end events run

pub returns-clause-held : goal.returns-clause-held
returns-clause-held c n slot events end run = held_where_taken c.members_of_sets.ensures.put c.members_of_sets.ensures.without (without_run_members c) n slot end events run

pub returns-clause-lowest : goal.returns-clause-lowest
returns-clause-lowest c n from slot events later end run = lowest_unheld c.members_of_sets.ensures.put c.members_of_sets.ensures.without (without_run_members c) n from slot end events later run

pub returns-clause-full : goal.returns-clause-full
returns-clause-full c n from slot events later end run = held_where_full c.members_of_sets.ensures.put c.members_of_sets.ensures.without (without_run_members c) n from slot end events later run

pub returns-clause-given : goal.returns-clause-given
returns-clause-given c n slot result events later end run = given_where_held c.members_of_sets.ensures.put c.members_of_sets.ensures.without (without_run_members c) n slot result end events later run

pub returns-clause-run : goal.returns-clause-run
returns-clause-run c n count first events later end run = lowest_unheld_run c.members_of_sets.ensures.put c.members_of_sets.ensures.without (without_run_members c) n count first end events later run

pub returns-clause-no_run : goal.returns-clause-no_run
returns-clause-no_run c n count first events later end run = no_unheld_run c.members_of_sets.ensures.put c.members_of_sets.ensures.without (without_run_members c) n count first end events later run
