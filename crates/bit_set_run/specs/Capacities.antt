-- What a command does to the capacities of sixteen sets over blocks of w bits. No public clause cites this.
use Rattle.std.specs.Prelude.{◌≡◌, ℕ, ◌+◌, ◌<◌, ◌≤◌, ◌==◌, Bool, true, false, List, [], length, max, slice_index_or, slice_set}
use Rattle.std.specs.List.{All}
use Rattle.bit_set.specs.{Bits.{Bits, blocks_for, capacity_of, whole_blocks}, Bounds.greatest}
use Rattle.bit_set_commands.specs.declared.commands.Command.{Command}
use Rattle.bit_set_commands.specs.declared.commands.Command.TheVariants.{Insert, Remove, Extend, Truncate, Empty, Reset, Reserve, ReserveExact, Shrink, Copy, InPlace, Append, SplitOff}
use Rattle.bit_set_run.specs.declared.pairs.PairChange.{PairChange}

-- the set at a place
abbrev pub bits_at : List Bits → ℕ → Bits
bits_at sets place = slice_index_or sets place record { values = []; capacity = 0 }

-- the set at a place becomes another, which is so related to it, and no other set changes
abbrev pub Becomes : List Bits → ℕ → (Bits → Bits → Type 0) → List Bits → Type 0
Becomes old place Change new = (after : Bits) × (new ≡ slice_set old place after) × Change (bits_at old place) after

-- the same of two sets
abbrev pub BecomeTwo : List Bits → ℕ → (Bits → Bits → Type 0) → ℕ → (Bits → Bits → Type 0) → List Bits → Type 0
BecomeTwo old s First t Second new =
    (first second : Bits) × (new ≡ slice_set (slice_set old s first) t second)
    × First (bits_at old s) first × Second (bits_at old t) second

-- the capacity stays
abbrev pub SameCapacity : Bits → Bits → Type 0
SameCapacity set after = after.capacity ≡ set.capacity

-- the capacity stays where it is enough for this length, and it does not fall
abbrev pub GrowsTo : ℕ → Bits → Bits → Type 0
GrowsTo len set after = (len ≤ set.capacity → after.capacity ≡ set.capacity) × (set.capacity ≤ after.capacity)

-- the same for a length that is above each of these numbers
abbrev pub GrowsPast : List ℕ → Bits → Bits → Type 0
GrowsPast numbers set after =
    (All (λ n. n < set.capacity) numbers → after.capacity ≡ set.capacity) × (set.capacity ≤ after.capacity)

-- the capacity becomes that of the blocks of this length, where it was less
abbrev pub GrowsExactlyTo : ℕ → ℕ → Bits → Bits → Type 0
GrowsExactlyTo w len set after = after.capacity ≡ max set.capacity (capacity_of w (blocks_for w len))

-- sets the length to the end of the last nonempty block, and the capacity to that of the blocks of this length
abbrev pub Shrinks : ℕ → Bits → Bits → Type 0
Shrinks w set after =
    (length after.values ≡ whole_blocks w set.values)
    × (after.capacity ≡ capacity_of w (blocks_for w (length after.values)))

-- the capacity that stays where a set is split at n: none at 0, and else all
abbrev pub IsFront : ℕ → Bits → Bits → Type 0
IsFront n set front = (n ≡ 0 → front.capacity ≡ 0) × (0 < n → front.capacity ≡ set.capacity)

-- that of the set that is split off: all at 0, none from the length on, and else that of the blocks of the length
abbrev pub IsPart : ℕ → ℕ → Bits → Bits → Type 0
IsPart w n set part =
    (n ≡ 0 → part.capacity ≡ set.capacity)
    × (0 < n → n < length set.values → part.capacity ≡ capacity_of w (blocks_for w (length set.values)))
    × (0 < n → length set.values ≤ n → part.capacity ≡ 0)

-- a command that changed a set by another: what became of the capacities of both, and that one that is only read stays
abbrev pub PairCapacities : ℕ → PairChange → (set other set_after other_after : Bits) → Type 0
PairCapacities w PairChange.Copy set other set_after other_after =
    GrowsExactlyTo w (length other.values) set set_after × (other_after ≡ other)
PairCapacities w (PairChange.Merge merge) set other set_after other_after =
    GrowsTo (length other.values) set set_after × (other_after ≡ other)
PairCapacities w PairChange.Append set other set_after other_after =
    GrowsTo (length other.values) set set_after × SameCapacity other other_after
PairCapacities w (PairChange.SplitOff n) set other set_after other_after =
    IsFront n set set_after × IsPart w n set other_after

-- the first where the test is true, and else the second
abbrev pub Choice : Bool → Type 0 → Type 0 → Type 0
Choice true First Second = First
Choice false First Second = Second

-- a command that succeeded
abbrev pub ChangesCapacities : ℕ → List Bits → Command → List Bits → Type 0
ChangesCapacities w old (Insert name n) new =
    Choice (n == greatest) (new ≡ old) (Becomes old name (GrowsTo (n + 1)) new)
ChangesCapacities w old (Extend name items) new = Becomes old name (GrowsPast items) new
ChangesCapacities w old (Remove name n) new = Becomes old name SameCapacity new
ChangesCapacities w old (Truncate name n) new = Becomes old name SameCapacity new
ChangesCapacities w old (Empty name) new = Becomes old name SameCapacity new
ChangesCapacities w old (Reset name) new = Becomes old name SameCapacity new
ChangesCapacities w old (Reserve name n) new =
    Becomes old name (λ set after. (n ≤ after.capacity) × GrowsTo n set after) new
ChangesCapacities w old (ReserveExact name n) new = Becomes old name (GrowsExactlyTo w n) new
ChangesCapacities w old (Shrink name) new = Becomes old name (Shrinks w) new
ChangesCapacities w old (Copy from to) new =
    Choice (from == to) (new ≡ old) (Becomes old to (GrowsExactlyTo w (length (bits_at old from).values)) new)
ChangesCapacities w old (InPlace merge s t) new =
    Choice (s == t) (new ≡ old) (Becomes old s (GrowsTo (length (bits_at old t).values)) new)
ChangesCapacities w old (Append s t) new =
    Choice (s == t) (new ≡ old) (BecomeTwo old s (GrowsTo (length (bits_at old t).values)) t SameCapacity new)
ChangesCapacities w old (SplitOff s n t) new =
    Choice (s == t) (new ≡ old) (BecomeTwo old s (IsFront n) t (λ _ part. IsPart w n (bits_at old s) part) new)
ChangesCapacities w old command new = new ≡ old

-- A command that found no memory. An `Extend` may have grown, and a `Shrink` given back a part.
abbrev pub KeepsCapacities : List Bits → Command → List Bits → Type 0
KeepsCapacities old (Extend name items) new = Becomes old name (λ set after. set.capacity ≤ after.capacity) new
KeepsCapacities old (Shrink name) new = Becomes old name (λ set after. after.capacity ≤ set.capacity) new
KeepsCapacities old command new = new ≡ old
