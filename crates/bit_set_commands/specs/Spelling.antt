-- A line for each command.
use Rattle.std.specs.{List.{All, flat_map}, Prelude.{ℕ, ◌+◌, ◌<◌, ◌≤◌, List, [], ◌∷◌, ◌++◌, codes, decimal}}
use Rattle.bit_set_commands.specs.declared.commands.Command.{Command}
use Rattle.bit_set_commands.specs.declared.commands.Command.TheVariants.{Insert, Remove, Contains, Extend, Truncate, Empty, Reset, Reserve, ReserveExact, Shrink, Count, IsEmpty, Items, Copy, InPlace, Append, SplitOff, Walk, Subset, Superset, Disjoint, Equal, Compare, RestIter, RestWalk}
use Rattle.bit_blocks.specs.{Bounds.greatest, declared.block.merge.Merge.Merge}
use Rattle.bit_blocks.specs.declared.block.merge.Merge.TheVariants.{Union, Intersection, Difference, Symmetric}

-- what a command's line is made of: a word, or two for a rest, then the sets that it names, by their places, and
-- its numbers
pub record Parts : Type 0 where
  pub word : List ℕ
  pub names : List ℕ
  pub numbers : List ℕ

abbrev pub parts : List ℕ → List ℕ → List ℕ → Parts
parts word names numbers = record { word = word; names = names; numbers = numbers }

-- the verb of an operation in place
abbrev pub in_place_word : Merge → List ℕ
in_place_word Union = codes "union_with"
in_place_word Intersection = codes "intersect_with"
in_place_word Difference = codes "difference_with"
in_place_word Symmetric = codes "symmetric_difference_with"

-- the verb of a walk over what two sets become
abbrev pub walk_word : Merge → List ℕ
walk_word Union = codes "union"
walk_word Intersection = codes "intersection"
walk_word Difference = codes "difference"
walk_word Symmetric = codes "symmetric_difference"

abbrev pub parts_of : Command → Parts
parts_of (Insert s n) = parts (codes "insert") (s ∷ []) (n ∷ [])
parts_of (Remove s n) = parts (codes "remove") (s ∷ []) (n ∷ [])
parts_of (Contains s n) = parts (codes "contains") (s ∷ []) (n ∷ [])
parts_of (Extend s ns) = parts (codes "extend") (s ∷ []) ns
parts_of (Truncate s n) = parts (codes "truncate") (s ∷ []) (n ∷ [])
parts_of (Empty s) = parts (codes "empty") (s ∷ []) []
parts_of (Reset s) = parts (codes "reset") (s ∷ []) []
parts_of (Reserve s n) = parts (codes "reserve") (s ∷ []) (n ∷ [])
parts_of (ReserveExact s n) = parts (codes "reserve_exact") (s ∷ []) (n ∷ [])
parts_of (Shrink s) = parts (codes "shrink") (s ∷ []) []
parts_of (Count s) = parts (codes "count") (s ∷ []) []
parts_of (IsEmpty s) = parts (codes "is_empty") (s ∷ []) []
parts_of (Items s) = parts (codes "items") (s ∷ []) []
parts_of (Copy s t) = parts (codes "copy") (s ∷ t ∷ []) []
parts_of (InPlace merge s t) = parts (in_place_word merge) (s ∷ t ∷ []) []
parts_of (Append s t) = parts (codes "append") (s ∷ t ∷ []) []
parts_of (SplitOff s n t) = parts (codes "split_off") (s ∷ t ∷ []) (n ∷ [])
parts_of (Walk merge s t) = parts (walk_word merge) (s ∷ t ∷ []) []
parts_of (Subset s t) = parts (codes "subset") (s ∷ t ∷ []) []
parts_of (Superset s t) = parts (codes "superset") (s ∷ t ∷ []) []
parts_of (Disjoint s t) = parts (codes "disjoint") (s ∷ t ∷ []) []
parts_of (Equal s t) = parts (codes "eq") (s ∷ t ∷ []) []
parts_of (Compare s t) = parts (codes "cmp") (s ∷ t ∷ []) []
parts_of (RestIter s n) = parts (codes "rest iter") (s ∷ []) (n ∷ [])
parts_of (RestWalk merge s t n) = parts (codes "rest " ++ walk_word merge) (s ∷ t ∷ []) (n ∷ [])

-- the places that a command names
abbrev pub names_of : Command → List ℕ
names_of command = (parts_of command).names

-- the numbers that a command is given
abbrev pub numbers_of : Command → List ℕ
numbers_of command = (parts_of command).numbers

-- a space and the letter of the set at a place
abbrev pub letter : ℕ → List ℕ
letter place = 32 ∷ (place + 97) ∷ []

-- a space and a number in decimal
abbrev pub figures : ℕ → List ℕ
figures n = 32 ∷ decimal n

-- the line that spells a command: the numbers are behind the names, but for that of `split_off`, which is between
-- them
abbrev pub line_of : Command → List ℕ
line_of (SplitOff s n t) = codes "split_off" ++ (letter s ++ (figures n ++ letter t))
line_of command =
    (parts_of command).word ++ (flat_map letter (names_of command) ++ flat_map figures (numbers_of command))

-- a command as a program can have it: each name is one of the sixteen, and no number is too large
pub record CanBeHad (command : Command) : Type 0 where
  pub names : All (λ name. name < 16) (names_of command)
  pub numbers : All (λ n. n ≤ greatest) (numbers_of command)
