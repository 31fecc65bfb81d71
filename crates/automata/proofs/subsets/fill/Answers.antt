use Rattle.std.proofs.Common.{◌≡◌, length, arith}
use Rattle.automata.proofs.subsets.fill.Goals as goal

pub loop-state-init : goal.loop-state-init
loop-state-init g c = record {
  builds = rw c.new-next.ensures.items c.requires.builds;
  whole = rw c.new-next.ensures.items (omega arith);
  inside = omega arith;
  few = c.requires.few;
}

pub add_row-requires-clause-builds : goal.add_row-requires-clause-builds
add_row-requires-clause-builds g c = c.loop-state.invariant.builds

pub add_row-requires-clause-whole : goal.add_row-requires-clause-whole
add_row-requires-clause-whole g c = c.loop-state.invariant.whole

pub add_row-requires-clause-inside : goal.add_row-requires-clause-inside
add_row-requires-clause-inside g c = omega (arith, c.loop-state-test.true, c.len.ensures)

pub add_row-requires-clause-few : goal.add_row-requires-clause-few
add_row-requires-clause-few g c = c.loop-state.invariant.few

pub overflow_add-state : goal.overflow_add-state
overflow_add-state g c = omega (arith, c.loop-state-test.true, c.len.type_inv)

pub loop-state-preserved : goal.loop-state-preserved
loop-state-preserved g c =
    let after = c.in_ok-add_row.ensures in
    record {
      builds = after.builds;
      whole = after.whole;
      inside = omega (arith, after.inside);
      few = after.few;
    }

pub loop-state-smaller : goal.loop-state-smaller
loop-state-smaller g c = omega (arith, c.loop-state-test.true, c.len.ensures, c.loop-state.invariant.few)

pub returns-clause-builds : goal.returns-clause-builds
returns-clause-builds g c = c.loop-state.invariant.builds

pub returns-clause-whole : goal.returns-clause-whole
returns-clause-whole g c =
    let ended : length c.loop-state.numbering ≡ c.loop-state.state = omega (arith, c.len.ensures, c.loop-state-test.false, c.loop-state.invariant.inside) in
    rw ended c.loop-state.invariant.whole

pub returns-clause-few : goal.returns-clause-few
returns-clause-few g c = c.loop-state.invariant.few
