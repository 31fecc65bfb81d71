-- How the walk over runs finds the end of one: by the first number from its first member on that is missing.
use Rattle.std.proofs.Common.{◌≡◌, ℕ, not, ◌&&◌, List, [], Option, Some, None, sym, ◌∙◌}
use Rattle.std.specs.{Option.unwrap_or, declared.ops.Range.Range}
use Rattle.bit_blocks.specs.Ranges.{in_range}
use Rattle.set_algebra.specs.{Members.TakesLeast, Ranges.those_in_range, Runs.IsFirstRun, Sets.{IsAscending, has}}
use Rattle.set_algebra.proofs.RunLemmas.{ends_before, ends_with_range}
use Rattle.bit_set.specs.Missing.{MissingWalk, PassesMembers}

module _ (s : List ℕ) (start end : ℕ) (up : IsAscending s) (missing : List ℕ) (first : ℕ) (out : (n : ℕ) → has missing n ≡ (in_range first end n && not (has s n))) (t : List ℕ) (least : TakesLeast (those_in_range s start end) first t) where
  pub run_found : (w : ℕ) (a b : MissingWalk) (r : Option ℕ) (past : ℕ) → a.left ≡ missing → PassesMembers w a r b
      → past ≡ unwrap_or r end → IsFirstRun (those_in_range s start end) (record { start = first; end = past })
  run_found w a b None past is step e = rw e (ends_with_range s start end up missing first out t least (sym is ∙ step.item.0))
  run_found w a b (Some x) past is step e = rw e (ends_before s start end up missing first out t least x b.left (rw is at step.first))
