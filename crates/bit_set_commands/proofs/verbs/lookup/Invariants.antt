use Rattle.std.{specs.{Map.lookup, Str.bytes_eq}, proofs.Common.{◌≡◌, map, length}}
use Rattle.bit_set_commands.proofs.verbs.lookup.Given as goal

abbrev pub invariant-loop-table : goal.invariant-loop-table
invariant-loop-table g l = lookup (bytes_eq l.word) (map (λ entry. (entry.0.now, entry.1)) l.table) ≡ lookup (bytes_eq l.word) (map (λ entry. (entry.0.now, entry.1)) l.fn.table)

abbrev pub decreases-loop-table : goal.decreases-loop-table
decreases-loop-table g l = length l.table
