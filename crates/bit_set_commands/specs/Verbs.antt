-- The verbs of commands: what comes after each, and the command that it makes of that.
use Rattle.std.specs.{Map.lookup, Prelude.{ℕ, List, [], ◌∷◌, codes, Option}, Str.bytes_eq}
use Rattle.bit_blocks.specs.declared.block.merge.Merge.TheVariants.{Union, Intersection, Difference, Symmetric}
use Rattle.bit_set_commands.specs.{declared.commands.Command.Command, declared.verbs.SetWalk.SetWalk}
use Rattle.bit_set_commands.specs.declared.commands.Command.TheVariants.{Insert, Remove, Contains, Extend, Truncate, Empty, Reset, Reserve, ReserveExact, Shrink, Count, IsEmpty, Items, Copy, InPlace, Append, SplitOff, Walk, Subset, Superset, Disjoint, Equal, Compare}
use Rattle.bit_set_commands.specs.{declared.verbs.SetWalk.TheVariants.{One, Two}, declared.verbs.Verb.Verb}
use Rattle.bit_set_commands.specs.declared.verbs.Verb.TheVariants as verb

-- what comes after a verb, with the command that is made of it
pub data Usage : Type 0 where
  Name : (ℕ → Command) → Usage
  NameAndNumber : (ℕ → ℕ → Command) → Usage
  TwoNames : (ℕ → ℕ → Command) → Usage
  NameAndNumbers : (ℕ → List ℕ → Command) → Usage
  NamesAroundNumber : (ℕ → ℕ → ℕ → Command) → Usage
  WalkAndItsWords : Usage

-- the verbs
abbrev pub verbs : List (List ℕ × Usage)
verbs =
    (codes "insert", NameAndNumber Insert) ∷
    (codes "remove", NameAndNumber Remove) ∷
    (codes "contains", NameAndNumber Contains) ∷
    (codes "extend", NameAndNumbers Extend) ∷
    (codes "truncate", NameAndNumber Truncate) ∷
    (codes "empty", Name Empty) ∷
    (codes "reset", Name Reset) ∷
    (codes "reserve", NameAndNumber Reserve) ∷
    (codes "reserve_exact", NameAndNumber ReserveExact) ∷
    (codes "shrink", Name Shrink) ∷
    (codes "count", Name Count) ∷
    (codes "is_empty", Name IsEmpty) ∷
    (codes "items", Name Items) ∷
    (codes "copy", TwoNames Copy) ∷
    (codes "union_with", TwoNames (InPlace Union)) ∷
    (codes "intersect_with", TwoNames (InPlace Intersection)) ∷
    (codes "difference_with", TwoNames (InPlace Difference)) ∷
    (codes "symmetric_difference_with", TwoNames (InPlace Symmetric)) ∷
    (codes "append", TwoNames Append) ∷
    (codes "split_off", NamesAroundNumber SplitOff) ∷
    (codes "union", TwoNames (Walk Union)) ∷
    (codes "intersection", TwoNames (Walk Intersection)) ∷
    (codes "difference", TwoNames (Walk Difference)) ∷
    (codes "symmetric_difference", TwoNames (Walk Symmetric)) ∷
    (codes "subset", TwoNames Subset) ∷
    (codes "superset", TwoNames Superset) ∷
    (codes "disjoint", TwoNames Disjoint) ∷
    (codes "eq", TwoNames Equal) ∷
    (codes "cmp", TwoNames Compare) ∷
    (codes "rest", WalkAndItsWords) ∷
    []

-- the usage of the verb that a word is
abbrev pub usage_of : List ℕ → Option Usage
usage_of word = lookup (bytes_eq word) verbs

-- the walks that `rest` takes, and their words
abbrev pub walks : List (List ℕ × SetWalk)
walks =
    (codes "iter", One) ∷
    (codes "union", Two Union) ∷
    (codes "intersection", Two Intersection) ∷
    (codes "difference", Two Difference) ∷
    (codes "symmetric_difference", Two Symmetric) ∷
    []

-- the walk that a word is
abbrev pub walk_of : List ℕ → Option SetWalk
walk_of word = lookup (bytes_eq word) walks

-- The usage of a verb that was found. No public clause cites this.
abbrev pub usage : Verb → Usage
usage verb.Insert = NameAndNumber Insert
usage verb.Remove = NameAndNumber Remove
usage verb.Contains = NameAndNumber Contains
usage verb.Extend = NameAndNumbers Extend
usage verb.Truncate = NameAndNumber Truncate
usage verb.Empty = Name Empty
usage verb.Reset = Name Reset
usage verb.Reserve = NameAndNumber Reserve
usage verb.ReserveExact = NameAndNumber ReserveExact
usage verb.Shrink = Name Shrink
usage verb.Count = Name Count
usage verb.IsEmpty = Name IsEmpty
usage verb.Items = Name Items
usage verb.Copy = TwoNames Copy
usage (verb.InPlace merge) = TwoNames (InPlace merge)
usage verb.Append = TwoNames Append
usage verb.SplitOff = NamesAroundNumber SplitOff
usage (verb.Walk merge) = TwoNames (Walk merge)
usage verb.Subset = TwoNames Subset
usage verb.Superset = TwoNames Superset
usage verb.Disjoint = TwoNames Disjoint
usage verb.Equal = TwoNames Equal
usage verb.Compare = TwoNames Compare
usage verb.Rest = WalkAndItsWords
