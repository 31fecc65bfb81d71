use Rattle.std.proofs.Common.{◌≡◌, ℕ, ◌<◌, ◌≤◌, min, max, true, refl, vec_capacity, arith, Result, OnOk}
use Rattle.bit_words.{specs.{Growth.ReservesShared, Summary.{shared_capacity, stored_for}}, proofs.CapacityLemmas.{shared_past_summary, shared_short_summary, shared_whole}}
use Rattle.bit_words.proofs.summary.shared_capacity.reserve_shared_exact.Goals as goal

-- the capacity that both share is that of the summary, however much of the blocks' own is given back
shared_cut : (w blocks summary count cut : ℕ) → 0 < w → summary < stored_for w count → min count blocks ≤ cut → cut ≤ blocks → shared_capacity w cut summary ≡ shared_capacity w blocks summary
shared_cut w blocks summary count cut pos short low high = let less = shared_past_summary w count summary pos short in omega arith

-- what is made is just what was asked for
made_exact : {E : Type 0} (w blocks summary count cut new_blocks new_summary : ℕ) (r : Result Unit E) → 0 < w
    → summary < stored_for w count → cut ≤ count → ReservesShared w count true r cut summary new_blocks new_summary
    → OnOk r (shared_capacity w new_blocks new_summary ≡ max (shared_capacity w blocks summary) count)
made_exact w blocks summary count cut new_blocks new_summary r pos short fits made =
    grind (arith, shared_short_summary w blocks summary count pos short, shared_whole w count new_blocks new_summary pos, made.exact refl, made.exact_summary refl)

pub returns-then-count-capacity-clause-full : goal.returns-then-count-capacity-clause-full
returns-then-count-capacity-clause-full g c =
    shared_short_summary g.B.BitBlock.width (vec_capacity c.args.blocks.now) (vec_capacity c.args.summary.now) c.args.count g.met.B.BitBlock.width_law.positive (omega arith)

pub returns-clause-exact : goal.returns-clause-exact
returns-clause-exact g c =
    made_exact g.B.BitBlock.width (vec_capacity c.args.blocks.now) (vec_capacity c.args.summary.now) c.args.count
    (vec_capacity c.shrink_to.new.self) _ _ _ g.met.B.BitBlock.width_law.positive (omega arith)
    (omega arith) c.reserve_shared-2.ensures.capacity

pub returns-then-count-capacity-clause-err : goal.returns-then-count-capacity-clause-err
returns-then-count-capacity-clause-err g c =
    shared_cut g.B.BitBlock.width (vec_capacity c.args.blocks.now) (vec_capacity c.args.summary.now) c.args.count
    (vec_capacity c.shrink_to.new.self) g.met.B.BitBlock.width_law.positive
    (omega arith) c.shrink_to.ensures.lower_bound c.shrink_to.ensures.capacity
