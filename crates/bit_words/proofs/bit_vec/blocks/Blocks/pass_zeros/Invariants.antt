use Rattle.std.proofs.Common.{◌≡◌, ◌+◌, drop}
use Rattle.bit_words.proofs.bit_vec.blocks.Blocks.pass_zeros.Given as goal

abbrev pub invariant-loop : goal.invariant-loop
invariant-loop g l = record {
  left : l.self.left ≡ drop l.counter l.fn.self.left;
  pulls : l.self.pulls ≡ l.fn.self.pulls + l.counter;
}
