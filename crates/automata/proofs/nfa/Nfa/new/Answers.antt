use Rattle.std.proofs.Common.{ap, length, arith}
use Rattle.bit_set.specs.Bits.{Bits}
use Rattle.automata.proofs.nfa.Nfa.new.Goals as goal

pub invariant_of-result : goal.invariant_of-result
invariant_of-result g c =
    let each = rw c.as_slice.ensures.value at c.longest_of_rows.ensures.all in
    let least = rw c.as_slice.ensures.value at c.longest_of_rows.ensures.least in
    let long = ap (λ (bits : Bits). length bits.values) c.get_ref.ensures in
    record {
      all = λ symbol u. omega (arith, each symbol u, c.max-longest.ensures);
      starts_too = omega (arith, long, c.len.ensures.value, c.max-longest.ensures);
      least = λ n all low. omega (arith, least n all, low, long, c.len.ensures.value, c.max-longest.ensures);
    }
