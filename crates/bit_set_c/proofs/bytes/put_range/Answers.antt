use Rattle.std.proofs.Common.{◌≡◌, ◌+◌, ◌*◌, ◌-◌, ◌/◌, ◌%◌, ◌<◌, ◌≤◌, ◌∙◌, ap, arith, drop, get_or, get_or-drop, length, length-drop, length-take, take, ⊎_elim}
use Rattle.std.proofs.lemmas.{Bool.cases_lt, List.get_or-take}
use Rattle.bit_blocks.specs.Digits.{is_one}
use Rattle.bit_set_c.{proofs.{BlockNumbers.numbers_are_blocks, ByteDigits.same_past}, specs.Block.width}
use Rattle.bit_set_c.proofs.bytes.put_range.Goals as goal

pub returns-clause-digits : goal.returns-clause-digits
returns-clause-digits c =
    let step = width / 8 in
    let from = c.args.from in
    let count = c.args.count in
    let blocks = c.args.blocks.now in
    let front = c.min-front.result in
    let next = c.div_ceil-next.result in
    let whole = (count - front) / step in
    let taken = next + whole - next in
    let few : length (take taken (drop next blocks)) ≡ whole = omega (arith, length-take taken (drop next blocks), length-drop next blocks, c.requires.within, c.min-front.ensures, c.div_ceil-next.ensures) in
    λ q j below within.
    ⊎_elim
    (λ (before : q < front + step * whole).
    ap (λ m. is_one m j) (c.put_bytes-2.ensures.before q before)
    ∙ ⊎_elim
    (λ (early : q < front).
    let here : 0 + q ≡ q = omega arith in
    let block : (from + q) / step ≡ from / step = omega (arith, early, c.min-front.ensures) in
    let byte : (from + q) % step ≡ from % step + q = omega (arith, early, c.min-front.ensures) in
    let of_number = c.block_or_zero-first.ensures.of_number ∙ ap (λ ms. get_or ms (from / step) 0) (numbers_are_blocks blocks) in
    rw (block, byte) (ap (λ m. is_one m j) (c.put_whole.ensures.before q early) ∙ (rw here at (c.put_bytes.ensures.digits q j early within)) ∙ ap (λ m. is_one m (8 * (from % step + q) + j)) of_number))
    (λ (reached : front ≤ q).
    let p = q - front in
    let here : front + p ≡ q = omega (arith, reached) in
    let block : (from + q) / step ≡ next + p / step = omega (arith, before, reached, c.min-front.ensures, c.div_ceil-next.ensures) in
    let byte : (from + q) % step ≡ p % step = omega (arith, before, reached, c.min-front.ensures) in
    let inside : p / step < taken = omega (arith, before, reached) in
    let of_number = get_or-take taken (drop next blocks) (p / step) 0 inside ∙ get_or-drop next blocks (p / step) 0 in
    rw (block, byte) ((rw here at (c.put_whole.ensures.digits p j (omega (arith, few, before, reached)) within)) ∙ ap (λ m. is_one m (8 * (p % step) + j)) of_number))
    (cases_lt q front))
    (λ (late : front + step * whole ≤ q).
    let p = q - (front + step * whole) in
    let here : front + step * whole + p ≡ q = omega (arith, late) in
    let block : (from + q) / step ≡ next + whole = omega (arith, late, below, c.min-front.ensures, c.div_ceil-next.ensures) in
    let byte : (from + q) % step ≡ 0 + p = omega (arith, late, below, c.min-front.ensures) in
    let of_number = c.block_or_zero-last.ensures.of_number ∙ ap (λ ms. get_or ms (next + whole) 0) (numbers_are_blocks blocks) in
    rw (block, byte) ((rw here at (c.put_bytes-2.ensures.digits p j (omega (arith, late, below)) within)) ∙ ap (λ m. is_one m (8 * (0 + p) + j)) of_number))
    (cases_lt q (front + step * whole))

pub returns-clause-others : goal.returns-clause-others
returns-clause-others c =
    let step = width / 8 in
    let count = c.args.count in
    let front = c.min-front.result in
    let next = c.div_ceil-next.result in
    let whole = (count - front) / step in
    let run = take (next + whole - next) (drop next c.args.blocks.now) in
    let few : length run ≤ whole = omega (arith, length-take (next + whole - next) (drop next c.args.blocks.now)) in
    same_past c.put_bytes-2.new.bytes c.put_whole.new.bytes (front + step * whole + (count - (front + step * whole))) count (omega arith) c.put_bytes-2.ensures.others
    ∙ same_past c.put_whole.new.bytes c.put_bytes.new.bytes (front + step * length run) count (omega (arith, few, c.min-front.ensures)) c.put_whole.ensures.others
    ∙ same_past c.put_bytes.new.bytes c.args.bytes.now (0 + front) count (omega (arith, c.min-front.ensures)) c.put_bytes.ensures.others
