use Rattle.std.{proofs.Common.◌≡◌, specs.List.fold}
use Rattle.set_algebra.specs.{Sets.elements, Order.fed_of_set}
use Rattle.bit_set.proofs.hash.BitSetHash.hash.Given as goal

-- what is left is still to be fed
abbrev pub invariant-loop-item : goal.invariant-loop-item
invariant-loop-item g l =
    fold g.H.Hasher.write l.state (fed_of_set l.item-iterator.left) ≡ fold g.H.Hasher.write l.fn.state (fed_of_set (elements l.self.values))
