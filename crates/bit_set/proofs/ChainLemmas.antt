-- What the walks give in order, so that std's chains go on from them.
use Rattle.std.proofs.{Common.{List, Option, true, length, refl, ap}, iter.runs.Made.{run, to_end}}
use Rattle.std.proofs.iter.runs.Sources.{from_front, from_back, as_is, as_is_back}
use Rattle.std.specs.Iterator.{Drains, Runs.{WholeRun, YieldsInOrder, YieldsInReverse}}
use Rattle.bit_set.specs.{Missing.PassesMembers, Walk.{Advances, AdvancesBack, AdvancesByEach, AdvancesWithBound}}

pub runs_of_walk : {w : _} → YieldsInOrder (Advances w) (λ walk. walk.left)
runs_of_walk {w} p s = as_is p p.from.left (from_front (Advances w) (λ x. x) (λ walk. walk.left) (λ s t h. ap length h.item.0) (λ s x t h. h.item) p s)

pub runs_of_walk_back : {w : _} → YieldsInReverse (AdvancesBack w) (λ walk. walk.left)
runs_of_walk_back {w} p s =
    as_is_back p p.from.left (from_back (AdvancesBack w) (λ x. x) (λ walk. walk.left) (λ s t h. ap length h.item.0) (λ s x t h. h.item) p s)

pub runs_by_each : {w : _} → YieldsInOrder (AdvancesByEach w) (λ walk. walk.left)
runs_by_each {w} p s = as_is p p.from.left (from_front (AdvancesByEach w) (λ x. x) (λ walk. walk.left) (λ s t h. ap length h.item.0) (λ s x t h. h.item) p s)

pub runs_with_bound : {w : _} → YieldsInOrder (AdvancesWithBound w) (λ it. it.walk.left)
runs_with_bound {w} p s = as_is p p.from.walk.left (from_front (AdvancesWithBound w) (λ x. x) (λ it. it.walk.left) (λ s t h. ap length h.walk.item.0) (λ s x t h. h.walk.item) p s)

pub runs_past_members : {w : _} → YieldsInOrder (PassesMembers w) (λ walk. walk.left)
runs_past_members {w} p s = as_is p p.from.left (from_front (PassesMembers w) (λ x. x) (λ walk. walk.left) (λ s t h. ap length h.item.0) (λ s x t h. h.item) p s)

-- calls up to the first None are a whole run
pub run_to_end : {S A : Type 0} (steps : S → Option A → S → Type 0) (P : List A → Type 0) (s : S) (items : List A)
    → Drains steps s items → P items → WholeRun steps s (λ p. P p.items)
run_to_end steps P s items all holds = (run steps s items true (to_end steps s items all), refl, refl, holds)
