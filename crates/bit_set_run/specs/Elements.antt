-- What a table keeps in a set.
use Rattle.std.specs.Prelude.{ℕ, List}
use Rattle.bit_set.specs.{Bits.Bits, Sets.elements}

-- the numbers of a set, as the places at which its bit vector is true
abbrev pub elements_of : Bits → List ℕ
elements_of set = elements set.values
