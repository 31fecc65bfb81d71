use Rattle.std.proofs.{Common.{◌≡◌, ◌<◌, Err, length, refl, ap, arith}, lemmas.List.length_push}
use Rattle.std.proofs.lemmas.Result.{err_from_is_err_and}
use Rattle.bit_set.specs.Sets.{elements}
use Rattle.automata.specs.{Numbering.set_of, Runs.{IsImage, row_of}, declared.fault.DfaError.TheVariants.TooMany}
use Rattle.automata.proofs.BuildLemmas.{as_many, more_than, reached_on, row_on}
use Rattle.automata.proofs.subsets.add_row.Goals as goal

pub returns-in_err-number-clause-too_many : goal.returns-in_err-number-clause-too_many
returns-in_err-number-clause-too_many g c =
    let p = err_from_is_err_and c.from_residual-in_err-number.result c.from_residual-in_err-number.ensures.1 in
    rw (p.1, p.2) (λ is.
    let fault : c.in_err-number.field-0.0 ≡ TooMany = cc in
    let nfa = c.args.nfa.now in
    let sets = c.loop-symbol.numbering in
    let set = elements c.step.new.into.values in
    let symbol = c.loop-symbol.symbol in
    let inside : symbol < length nfa.moves = omega arith in
    let image : IsImage (row_of nfa.moves symbol) (set_of sets c.args.state) set = rw c.set.ensures at c.in_ok-step.ensures in
    let reach = reached_on nfa sets _ c.loop-symbol.invariant.builds c.args.state symbol set c.loop-symbol.invariant.inside inside image in
    more_than nfa sets _ c.loop-symbol.invariant.builds set (c.sets_ascend.ensures.elements c.step.new.into.values) reach
    (c.in_err-number.ensures.too_many.0 (ap Err fault)).0 c.sets_are_their_members.ensures.set c.args.most
    (c.in_err-number.ensures.too_many.0 (ap Err fault)).1)

pub loop-symbol-preserved : goal.loop-symbol-preserved
loop-symbol-preserved g c =
    let nfa = c.args.nfa.now in
    let sets = c.loop-symbol.numbering in
    let set = elements c.step.new.into.values in
    let symbol = c.loop-symbol.symbol in
    let inside : symbol < length nfa.moves = omega arith in
    let image : IsImage (row_of nfa.moves symbol) (set_of sets c.args.state) set = rw c.set.ensures at c.in_ok-step.ensures in
    let more = as_many sets set c.in_ok-number.number c.number_of.new.self c.in_ok-number.ensures.ok in
    let longer = ap length c.in_ok-push.ensures.items in
    let before = c.loop-symbol.invariant.whole in
    record {
      end = c.loop-symbol.invariant.end;
      builds = rw c.in_ok-push.ensures.items (row_on nfa sets _ c.args.state symbol set c.in_ok-number.number
          c.number_of.new.self c.loop-symbol.invariant.builds
          (c.sets_ascend.ensures.elements c.step.new.into.values) c.sets_are_their_members.ensures.set before
          inside c.loop-symbol.invariant.inside image c.in_ok-number.ensures.ok);
      whole = omega (arith, longer, before, length_push c.loop-symbol.next.items c.in_ok-number.number);
      inside = omega (arith, more, c.loop-symbol.invariant.inside);
      few = c.in_ok-number.ensures.limit refl c.loop-symbol.invariant.few;
    }
