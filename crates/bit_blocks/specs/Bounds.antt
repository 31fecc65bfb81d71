-- What bounds the indexes of a list of bits, and so the elements of a set.
use Rattle.std.specs.Prelude.{ℕ}

-- the greatest `usize`: no index, since a length is above each index
abbrev pub greatest : ℕ
greatest = 18446744073709551615
