use Rattle.std.proofs.Common.{◌≡◌, ◌<◌, ◌&&◌, nat_lt, not, [], get_or, length, set, ap, ◌∙◌, arith}
use Rattle.std.proofs.lemmas.List.{get_or_default}
use Rattle.bit_set.specs.Sets.{elements, has}
use Rattle.dataflow.specs.{Availability.IsComplement, Flow.{lists_of, set_at}}
use Rattle.dataflow.proofs.{AvailabilityLemmas.complements_on, TakeLemmas.{as_long, others_stay, read_set, written}}
use Rattle.dataflow.proofs.expressions.complement_each.Goals as goal

pub loop-index-preserved : goal.loop-index-preserved
loop-index-preserved g c =
    let sets = c.loop-index.sets in
    let i = c.loop-index.index in
    let new = c.complement.new.set in
    let long = c.loop-index.auto.sets in
    let inside : i < length sets = omega (arith, long) in
    let read : elements (get_or sets i c.index-sets-index.result).values ≡ set_at (lists_of sets) i =
    read_set sets i _ (get_or_default sets i c.index-sets-index.result (record { values = []; capacity = 0 }) inside) in
    let here : IsComplement c.args.count (set_at (lists_of sets) i) (set_at (lists_of (set sets i new)) i) =
    λ e. ap (λ s. has s e) (written sets i new inside) ∙ c.in_ok-complement.ensures e
    ∙ ap (λ s. nat_lt e c.args.count && not (has s e)) read in
    complements_on c.args.count i (lists_of c.args.sets.now) (lists_of sets) (lists_of (set sets i new)) c.loop-index.invariant (as_long sets i new) (others_stay sets i new) here
