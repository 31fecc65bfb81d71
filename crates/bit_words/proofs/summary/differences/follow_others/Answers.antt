use Rattle.std.proofs.Common.{◌≡◌, ◌≢◌, ℕ, ◌||◌, ◌+◌, ◌*◌, ◌<◌, ◌≤◌, ◌∙◌, true, sym, ap, ap₂, ⊎_elim, get_or, map}
use Rattle.std.proofs.Common.{length, arith, get_or-set_other, mul-le-mul_right}
use Rattle.std.proofs.lemmas.{Bool.{cases_lt, true≢false}, List.length-map}
use Rattle.bit_blocks.specs.{Bits.blocks_for, Digits.is_one, Storage.{is_used, value_at}}
use Rattle.bit_blocks.proofs.BitsLemmas.{blocks_for-enough, blocks_for-le, whole_before}
use Rattle.bit_blocks.proofs.{StorageLemmas.value_at-index, UseLemmas.used_past}
use Rattle.bit_words.proofs.SummaryLemmas.{summary_of_blocks, summary_put}
use Rattle.bit_words.proofs.summary.differences.follow_others.{Given.Over, Goals.{After-block_count-q-end, After-summary_at-excepted}}
use Rattle.bit_words.proofs.summary.differences.follow_others.Goals as goal

-- the summary has the blocks that are made anew
inside : (g : Over) (c : After-block_count-q-end g) → c.block_count-q-end.result ≤ length c.args.summary.now
inside g c =
    let le = blocks_for-le g.B.BitBlock.width (length c.args.others.now) (length c.args.blocks.now) g.met.B.BitBlock.width_law.positive c.requires.fewer in
    omega (arith, le, c.requires.count, c.block_count-q-end.ensures)

pub loop-q-preserved : goal.loop-q-preserved
loop-q-preserved g c =
    let w = g.B.BitBlock.width in
    let q = c.loop-q.q in
    let ns = map g.B.BitBlock.number c.args.blocks.now in
    let ss = map g.B.BitBlock.number c.loop-q.summary in
    let reach = inside g (goal.at.loop-q-preserved g c).After-block_count-q-end in
    let within : q < length ss = rw length-map (omega (arith, reach)) in
    record {
      done = λ p j below index. summary_put w ns ss _ 0 q _ within c.put_in.ensures.numbers c.followed.ensures.digits
          (λ r i late early inside. c.loop-q.invariant.done r i early inside) p j (omega arith) below index;
      past = λ p from. let other : p ≢ q = omega arith in ap (λ xs. get_or xs p 0) c.put_in.ensures.numbers ∙ get_or-set_other ss q p _ 0 other ∙ c.loop-q.invariant.past p (omega arith);
      each_sum = c.put_in.ensures.each;
      summary_len = omega arith;
    }

pub followed-requires-clause-in_bounds : goal.followed-requires-clause-in_bounds
followed-requires-clause-in_bounds g c =
    let reach = inside g (goal.at.followed-requires-clause-in_bounds g c).After-block_count-q-end in
    omega (arith, whole_before g.B.BitBlock.width (length c.args.blocks.now) c.loop-q.q g.met.B.BitBlock.width_law.positive (omega (arith, reach, c.requires.count)))

-- the digits of both summaries that a block of them has here
own : (g : Over) (c : After-summary_at-excepted g) → (j : ℕ) → j < g.B.BitBlock.width
    → is_one (g.B.BitBlock.number c.block_at-own.result) j ≡ value_at g.B.BitBlock.width (map g.B.BitBlock.number c.args.summary.now) (c.loop-q.q * g.B.BitBlock.width + j)
own g c j index =
    ap (λ n. is_one n j) (c.block_at-own.ensures.of_number ∙ c.loop-q.invariant.past c.loop-q.q (omega arith))
    ∙ sym (value_at-index g.B.BitBlock.width (map g.B.BitBlock.number c.args.summary.now) c.loop-q.q j index)

pub followed-requires-clause-kept : goal.followed-requires-clause-kept
followed-requires-clause-kept g c = λ j index also.
    let here = (goal.at.followed-requires-clause-kept g c).After-summary_at-excepted in
    let first = own g here j index in
    c.requires.kept (c.loop-q.q * g.B.BitBlock.width + j) (λ h. sym first ∙ also (c.summary_at-other.ensures.digits j index ∙ h)) ∙ sym first

pub followed-requires-clause-united : goal.followed-requires-clause-united
followed-requires-clause-united g c = λ j index none.
    let here = (goal.at.followed-requires-clause-united g c).After-summary_at-excepted in
    c.requires.united (c.loop-q.q * g.B.BitBlock.width + j) (sym (c.summary_at-excepted.ensures.digits j index) ∙ none)
    ∙ sym (ap₂ (λ a b. a || b) (own g here j index) (c.summary_at-other.ensures.digits j index))

pub summary_at-other-requires-clause-fits : goal.summary_at-other-requires-clause-fits
summary_at-other-requires-clause-fits g c =
    let reach = inside g (goal.at.summary_at-other-requires-clause-fits g c).After-block_count-q-end in
    omega (arith, whole_before g.B.BitBlock.width (length c.args.blocks.now) c.loop-q.q g.met.B.BitBlock.width_law.positive (omega (arith, reach, c.requires.count)), c.requires.fits)

pub summary_at-excepted-requires-clause-fits : goal.summary_at-excepted-requires-clause-fits
summary_at-excepted-requires-clause-fits g c =
    let reach = inside g (goal.at.summary_at-excepted-requires-clause-fits g c).After-block_count-q-end in
    omega (arith, whole_before g.B.BitBlock.width (length c.args.blocks.now) c.loop-q.q g.met.B.BitBlock.width_law.positive (omega (arith, reach, c.requires.count)), c.requires.fits)

pub block_at-own-requires-clause-in_bounds : goal.block_at-own-requires-clause-in_bounds
block_at-own-requires-clause-in_bounds g c = omega (arith, inside g (goal.at.block_at-own-requires-clause-in_bounds g c).After-block_count-q-end)

pub put_in-requires-clause-in_bounds : goal.put_in-requires-clause-in_bounds
put_in-requires-clause-in_bounds g c = omega (arith, inside g (goal.at.put_in-requires-clause-in_bounds g c).After-block_count-q-end)

pub returns-clause-summary : goal.returns-clause-summary
returns-clause-summary g c =
    let w = g.B.BitBlock.width in
    let old = map g.B.BitBlock.number c.args.summary.now in
    let os = map g.B.BitBlock.number c.args.others.now in
    let count = c.block_count-q-end.result in
    let enough = blocks_for-enough w (length c.args.others.now) g.met.B.BitBlock.width_law.positive in
    let whole : blocks_for w (length c.args.others.now) * w ≡ count * w = ap (λ n. n * w) (sym c.block_count-q-end.ensures) in
    summary_of_blocks _ _ _ _ _ g.met.B.BitBlock.width_law.positive c.loop-q.invariant.each_sum (omega (arith, c.requires.count)) c.requires.fits (λ q j below index.
    ⊎_elim
    (λ early. c.loop-q.invariant.done q j (omega arith) index)
    (λ (late : count ≤ q).
    let past : length os ≤ q * w + j = omega (arith, enough, whole, mul-le-mul_right w late, length-map c.args.others.now g.B.BitBlock.number) in
    let none : is_used os (q * w + j) ≡ true → value_at w old (q * w + j) ≡ true = λ h. absurd (true≢false (sym h ∙ used_past os (q * w + j) past)) in
    ap (λ n. is_one n j) (c.loop-q.invariant.past q (omega arith)) ∙ sym (value_at-index w old q j index) ∙ sym (c.requires.kept (q * w + j) none))
    (cases_lt q count))
