-- What a command does to sixteen sets of numbers, and what a run of commands does.
use Rattle.std.specs.Prelude.{◌≡◌, ◌≢◌, ℕ, ◌<◌, ◌≤◌, ◌⊎◌, false, not, ◌==◌, if◌then◌else◌, List, [], ◌∷◌, ◌++◌, length, take, drop, replicate, slice_get, slice_index_or, slice_set, Some}
use Rattle.std.specs.List.{list_any}
use Rattle.bit_set_commands.specs.{declared.commands.Command.Command, declared.commands.Reply.Reply}
use Rattle.bit_set_commands.specs.declared.commands.Command.TheVariants.{Insert, Remove, Contains, Extend, Truncate, Empty, Reset, Reserve, ReserveExact, Shrink, Count, IsEmpty, Items as ItemsOf, Copy, InPlace, Append, SplitOff, Walk, Subset, Superset, Disjoint, Equal, Compare, RestIter, RestWalk}
use Rattle.bit_set_commands.specs.declared.commands.Reply.TheVariants.{Truth, Done, Number, Items, Order, Rest, Element, Same}
use Rattle.bit_set.specs.{Bounds.greatest, Order.{order_of_sets, same_sets}}
use Rattle.bit_set.specs.Sets.{bound_of, has, is_disjoint, is_subset, merge_of_sets, put, put_all, those_below, those_from, union, without}

-- sixteen sets, by their places
abbrev pub Sets : Type 0
Sets = List (List ℕ)

-- sixteen empty sets
abbrev pub no_sets : Sets
no_sets = replicate 16 []

-- the set of a name
abbrev pub set_of : Sets → ℕ → List ℕ
set_of sets name = slice_index_or sets name []

-- what a command leaves and replies
pub record Effect : Type 0 where
  pub sets : Sets
  pub reply : Reply

-- nothing changes, and this is the reply
abbrev pub reply_with : Sets → Reply → Effect
reply_with sets reply = record { sets = sets; reply = reply }

-- the set of a name becomes this one, and this is the reply
abbrev pub change_to : Sets → ℕ → List ℕ → Reply → Effect
change_to sets name set reply = record { sets = slice_set sets name set; reply = reply }

-- two sets become these, and it is done
abbrev pub change_two : Sets → ℕ → List ℕ → ℕ → List ℕ → Effect
change_two sets s first t second = change_to (slice_set sets s first) t second Done

-- the items before the first that no set can have
abbrev pub elements_before_greatest : List ℕ → List ℕ
elements_before_greatest [] = []
elements_before_greatest (n ∷ ns) = if n == greatest then [] else n ∷ elements_before_greatest ns

-- what is left of a walk over these numbers past the first n: how many, and which
abbrev pub rest_of : ℕ → List ℕ → Reply
rest_of n numbers = let rest = drop n numbers in Rest (length rest) rest

-- one command
abbrev pub step : Sets → Command → Effect
step sets (Insert name n) =
    if n == greatest then reply_with sets Element
    else change_to sets name (put (set_of sets name) n) (Truth (not (has (set_of sets name) n)))
step sets (Remove name n) = change_to sets name (without (set_of sets name) n) (Truth (has (set_of sets name) n))
step sets (Contains name n) = reply_with sets (Truth (has (set_of sets name) n))
-- the items go in up to the first that no set can have
step sets (Extend name items) =
    change_to sets name (put_all (set_of sets name) (elements_before_greatest items))
    (if list_any (λ n. n == greatest) items then Element else Done)
step sets (Truncate name n) = change_to sets name (those_below (set_of sets name) n) Done
step sets (Empty name) = change_to sets name [] Done
step sets (Reset name) = change_to sets name [] Done
step sets (Reserve name n) = reply_with sets Done
step sets (ReserveExact name n) = reply_with sets Done
step sets (Shrink name) = reply_with sets Done
step sets (Count name) = reply_with sets (Number (length (set_of sets name)))
step sets (IsEmpty name) = reply_with sets (Truth (length (set_of sets name) == 0))
step sets (ItemsOf name) = reply_with sets (Items (set_of sets name))
step sets (Copy from to) =
    if from == to then reply_with sets Same
    else change_to sets to (set_of sets from) Done
step sets (InPlace merge s t) =
    if s == t then reply_with sets Same
    else change_to sets s (merge_of_sets merge (set_of sets s) (set_of sets t)) Done
step sets (Append s t) =
    if s == t then reply_with sets Same
    else change_two sets s (union (set_of sets s) (set_of sets t)) t []
step sets (SplitOff s n t) =
    if s == t then reply_with sets Same
    else change_two sets s (those_below (set_of sets s) n) t (those_from (set_of sets s) n)
step sets (Walk merge s t) = reply_with sets (Items (merge_of_sets merge (set_of sets s) (set_of sets t)))
step sets (Subset s t) = reply_with sets (Truth (is_subset (set_of sets s) (set_of sets t)))
step sets (Superset s t) = reply_with sets (Truth (is_subset (set_of sets t) (set_of sets s)))
step sets (Disjoint s t) = reply_with sets (Truth (is_disjoint (set_of sets s) (set_of sets t)))
step sets (Equal s t) = reply_with sets (Truth (same_sets (set_of sets s) (set_of sets t)))
step sets (Compare s t) = reply_with sets (Order (order_of_sets (set_of sets s) (set_of sets t)))
step sets (RestIter name n) = reply_with sets (rest_of n (set_of sets name))
step sets (RestWalk merge s t n) = reply_with sets (rest_of n (merge_of_sets merge (set_of sets s) (set_of sets t)))

-- what some commands leave, and a reply for each
pub record Run : Type 0 where
  pub sets : Sets
  pub replies : List Reply

-- commands in order
abbrev pub run_of : Sets → List Command → Run
run_of sets [] = record { sets = sets; replies = [] }
run_of sets (command ∷ commands) =
    let first : Effect = step sets command in
    let rest : Run = run_of first.sets commands in
    record { sets = rest.sets; replies = first.reply ∷ rest.replies }

-- which commands can find no memory, and what they leave: what was before, but that an `Extend` has put in the
-- items before the one that could not go in. What is put in was not in before, capacity is reserved past all
-- numbers of the set, and numbers are listed, or moved to less capacity, where there is one. All numbers are split
-- off without memory.
abbrev pub FailsAt : Sets → Command → Sets → Type 0
FailsAt old (Insert name n) new = (n < greatest) × (has (set_of old name) n ≡ false) × (new ≡ old)
FailsAt old (Extend name items) new =
    (front : List ℕ) × (item : ℕ) × (back : List ℕ) × (elements_before_greatest items ≡ front ++ item ∷ back)
    × (has (put_all (set_of old name) front) item ≡ false)
    × (new ≡ slice_set old name (put_all (set_of old name) front))
FailsAt old (Reserve name n) new = (bound_of (set_of old name) < n) × (new ≡ old)
FailsAt old (ReserveExact name n) new = (bound_of (set_of old name) < n) × (new ≡ old)
FailsAt old (Shrink name) new = (set_of old name ≢ []) × (new ≡ old)
FailsAt old (ItemsOf name) new = (set_of old name ≢ []) × (new ≡ old)
FailsAt old (Copy from to) new = (from ≢ to) × (new ≡ old)
FailsAt old (InPlace merge s t) new = (s ≢ t) × (new ≡ old)
FailsAt old (Append s t) new = (s ≢ t) × (new ≡ old)
FailsAt old (SplitOff s n t) new = (s ≢ t) × (0 < n) × (new ≡ old)
FailsAt old (Walk merge s t) new = (merge_of_sets merge (set_of old s) (set_of old t) ≢ []) × (new ≡ old)
FailsAt old (RestIter name n) new = (drop n (set_of old name) ≢ []) × (new ≡ old)
FailsAt old (RestWalk merge s t n) new =
    (drop n (merge_of_sets merge (set_of old s) (set_of old t)) ≢ []) × (new ≡ old)
FailsAt old command new = ⊥

-- A run that stopped at command k, with capacity for this many replies at its start: the replies are those of the
-- commands before it. Either there was no capacity for one more, and the command did nothing, or it found no
-- memory.
pub record StoppedAt (k : ℕ) (commands : List Command) (capacity : ℕ) (old new : Sets)
    (old_replies new_replies : List Reply) : Type 0 where
  pub within : k < length commands
  pub command : Command
  pub at : slice_get commands k ≡ Some command
  pub replies : new_replies ≡ old_replies ++ (run_of old (take k commands)).replies
  pub sets :
      ((capacity ≤ length new_replies) × (new ≡ (run_of old (take k commands)).sets))
      ⊎ FailsAt (run_of old (take k commands)).sets command new
