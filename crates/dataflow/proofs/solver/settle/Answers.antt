use Rattle.std.proofs.Common.{◌≡◌, inl, inr, ℕ, Bool, true, false, ◌+◌, ◌*◌, ◌^◌, ◌<◌, [], map, length, refl, sym, ap, ◌∙◌, arith, true≢false}
use Rattle.std.proofs.lemmas.List.{length-map}
use Rattle.bit_set.specs.{Bits.Bits, Sets.{elements, has}}
use Rattle.dataflow.specs.{Flow.{block_at, lists_of}, Worklist.{TakesIn, place_of, row_at, rows_of}}
use Rattle.smallvec.specs.SmallVec.{SmallVec}
use Rattle.dataflow.proofs.SettleLemmas.{all_wait, few_after, lacking, nearer, none_waits, on_the_way, one_less, visited_grown, visited_same, waited}
use Rattle.dataflow.proofs.{TakeLemmas.mapped, solver.settle.Goals.{then-branch, else-branch}}
use Rattle.dataflow.proofs.solver.settle.Goals as goal

-- a block that there is has a place among those that wait
place_inside : (count : ℕ) (from_last : Bool) (b : ℕ) → b < count → place_of count from_last b < count
place_inside count true b inside = omega arith
place_inside count false b inside = inside

pub loop-next-init : goal.loop-next-init
loop-next-init g c =
    let blocks = c.args.blocks.now in
    let flows = map g.N.Block.flow blocks in
    let count = length blocks in
    let from_last = c.flows_back-from_last.result in
    let long : length flows ≡ count = length-map blocks g.N.Block.flow in
    let all = c.in_ok-waiting.ensures.all in
    record {
      way = c.requires.sets;
      settled = all_wait flows (place_of count from_last) (lists_of c.args.sets.now)
          (elements c.in_ok-waiting.waiting.values)
          (λ b inside. (all (place_of count from_last b)).1 (place_inside count from_last b (omega (arith, inside, long))));
      below = λ p h. (all p).0 h;
      capacity = c.in_ok-waiting.ensures.capacity;
    }

pub put_back-requires-clause-inside : goal.put_back-requires-clause-inside
put_back-requires-clause-inside g c b h =
    let blocks = c.args.blocks.now in
    let rows = c.args.dependents.now in
    let number = c.place-number.result in
    let dependents = c.requires.dependents in
    let long = dependents.long in
    let inside = c.place-number.ensures.inside in
    let as_many = length-map blocks g.N.Block.flow in
    let many = length-map rows (λ (r : SmallVec ℕ). r.items) in
    let lt : number < length rows = omega (arith, long, inside, as_many, many) in
    let read : row_at (rows_of rows) number ≡ c.as_slice.result.now =
    mapped (λ (r : SmallVec ℕ). r.items) rows number c.index-dependents-number.result [] lt c.index-dependents-number.is
    ∙ sym c.as_slice.ensures in
    let below : b < length (map g.N.Block.flow blocks) = dependents.inside b number (ap (λ s. has s b) read ∙ h) in
    omega (arith, below, as_many)

pub loop-next-smaller : goal.loop-next-smaller
loop-next-smaller g c =
    let blocks = c.args.blocks.now in
    let number = c.place-number.result in
    let as_many = length-map blocks g.N.Block.flow in
    let inside = c.place-number.ensures.inside in
    let few = c.bounded.ensures in
    let takes = c.in_ok-take_in.ensures.takes in
    let smaller : lacking (lists_of c.take_in.new.sets) * 2 ^
    64 + length (elements c.if-branch.waiting.values) < lacking (lists_of c.loop-next.sets) * 2 ^
    64 + length (elements c.loop-next.waiting.values) =
    elim c.if-branch.branch [
      | then-branch w ↦
          let less : lacking (lists_of c.take_in.new.sets) < lacking (lists_of c.loop-next.sets) =
          nearer (map g.N.Block.flow blocks) _ number _ _ c.loop-next.invariant.way takes (omega (arith, inside, as_many))
          (c.in_ok-take_in.ensures.grew w.if-branch.true) in
          omega (arith, less, few)
      | else-branch w ↦
          let same : lacking (lists_of c.take_in.new.sets) ≡ lacking (lists_of c.loop-next.sets) = ap lacking (c.in_ok-take_in.ensures.same w.if-branch.false) in
          let fewer : length (elements c.remove.new.self.values) + 1 ≡ length (elements c.loop-next.waiting.values) =
          one_less _ _ c.remove.result c.remove.ensures.count (c.remove.ensures.returned ∙ c.in-Some.ensures.some) in
          let now : length (elements c.if-branch.waiting.values) ≡ length (elements c.remove.new.self.values) = ap (λ (set : Bits). length (elements set.values)) w.waiting-is in
          omega (arith, same, fewer, now)
    ]
    in
    smaller

pub loop-next-preserved : goal.loop-next-preserved
loop-next-preserved g c =
    let blocks = c.args.blocks.now in
    let flows = map g.N.Block.flow blocks in
    let rows = c.args.dependents.now in
    let count = length blocks in
    let from_last = c.flows_back-from_last.result in
    let p = c.in-Some.next in
    let number = c.place-number.result in
    let it = c.loop-next.invariant in
    let old = lists_of c.loop-next.sets in
    let new = lists_of c.take_in.new.sets in
    let was = elements c.loop-next.waiting.values in
    let rest = elements c.remove.new.self.values in
    let long : length flows ≡ count = length-map blocks g.N.Block.flow in
    let low : p < count = it.below p c.in-Some.ensures.some in
    let inside = c.place-number.ensures.inside in
    let at : block_at flows number ≡ g.N.Block.flow c.index-blocks-number.result =
    mapped g.N.Block.flow blocks number c.index-blocks-number.result
    (record { sources = []; generated = []; killed = [] }) inside c.index-blocks-number.is in
    let takes : TakesIn (block_at flows number) number old new = rw at c.in_ok-take_in.ensures.takes in
    let capacity = c.remove.ensures.size.capacity in
    let enough = it.capacity in
    elim c.if-branch.branch [
      | then-branch w ↦
          let back = w.put_back.ensures.back in
          let dependents = c.requires.dependents in
          let rows_long = dependents.long in
          let many = length-map rows (λ (r : SmallVec ℕ). r.items) in
          let lt : number < length rows = omega (arith, rows_long, inside, long, many) in
          let read : row_at (rows_of rows) number ≡ w.as_slice.result.now =
          mapped (λ (r : SmallVec ℕ). r.items) rows number w.index-dependents-number.result [] lt
          w.index-dependents-number.is ∙ sym w.as_slice.ensures in
          let kept_capacity = w.put_back.ensures.capacity in
          rw w.waiting-is (record {
            way = on_the_way flows (place_of count from_last) number p old new takes it.way (few_after old new number (2 ^ 64) takes.others it.way.few (c.in_ok-take_in.ensures.few w.if-branch.true));
            settled = visited_grown flows count from_last number p old new was rest long low c.place-number.ensures.value
                takes c.remove.ensures.members it.settled (elements w.put_back.new.waiting.values) back.kept
                (λ b source. back.adds b (ap (λ s. has s b) (sym read)
                ∙ dependents.all b number (omega (arith, inside, long)) source));
            below = λ q h. elim (back.only q h) [
              | inl before ↦ it.below q (waited was rest p c.remove.ensures.members q before)
              | inr (b, is_in, is) ↦ rw is (place_inside count from_last b (let in_row = dependents.inside b number (ap (λ s. has s b) read ∙ is_in) in omega (arith, in_row, long)))
            ];
            capacity = omega (arith, capacity, enough, kept_capacity);
          })
      | else-branch w ↦
          let same = c.in_ok-take_in.ensures.same w.if-branch.false in
          rw w.waiting-is (record {
            way = rw same it.way;
            settled = visited_same flows count from_last number p old new was rest long low c.place-number.ensures.value takes c.remove.ensures.members it.settled same;
            below = λ q h. it.below q (waited was rest p c.remove.ensures.members q h);
            capacity = omega (arith, capacity, enough);
          })
    ]

pub take_in-requires : goal.take_in-requires
take_in-requires g c =
    let long = c.loop-next.invariant.way.long in
    let inside = c.place-number.ensures.inside in
    omega (arith, long, inside, length-map c.loop-next.sets (λ (set : Bits). elements set.values), length-map c.args.blocks.now g.N.Block.flow)

pub returns-clause-sets : goal.returns-clause-sets
returns-clause-sets g c = c.loop-next.invariant.way

pub returns-clause-settled : goal.returns-clause-settled
returns-clause-settled g c = none_waits _ _ _ _ c.loop-next.invariant.settled c.in_default.ensures.none c.loop-next.invariant.way.generated

pub returns-clause-none : goal.returns-clause-none
returns-clause-none g c _ = refl

pub returns-in_err-waiting-clause-none : goal.returns-in_err-waiting-clause-none
returns-in_err-waiting-clause-none g c none = absurd (true≢false (sym (c.in_err-waiting.ensures.none none)))

pub returns-in_err-take_in-clause-none : goal.returns-in_err-take_in-clause-none
returns-in_err-take_in-clause-none g c none = absurd (omega (arith, none, c.place-number.ensures.inside))

pub place-number-requires : goal.place-number-requires
place-number-requires g c = c.loop-next.invariant.below c.in-Some.next c.in-Some.ensures.some

pub put_back-requires-clause-capacity : goal.put_back-requires-clause-capacity
put_back-requires-clause-capacity g c = omega (arith, c.loop-next.invariant.capacity, c.remove.ensures.size.capacity)

pub bounds-blocks-number : goal.bounds-blocks-number
bounds-blocks-number g c = c.place-number.ensures.inside

pub bounds-dependents-number : goal.bounds-dependents-number
bounds-dependents-number g c =
    let many = length-map c.args.dependents.now (λ (r : SmallVec ℕ). r.items) in
    omega (arith, many, c.requires.dependents.long, c.place-number.ensures.inside, length-map c.args.blocks.now g.N.Block.flow)

pub overflow_add-from : goal.overflow_add-from
overflow_add-from g c = omega (arith, c.loop-next.invariant.below c.in-Some.next c.in-Some.ensures.some)
