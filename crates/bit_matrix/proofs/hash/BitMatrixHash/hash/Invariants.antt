use Rattle.std.{proofs.Common.{◌≡◌, drop}, specs.List.{flat_map, fold}}
use Rattle.bit_matrix.specs.Compared.{fed_of_key, fed_of_row, key_of}
use Rattle.bit_matrix.proofs.hash.BitMatrixHash.hash.Given as goal

-- the rows from this one on are still to be fed
abbrev pub invariant-loop-row : goal.invariant-loop-row
invariant-loop-row g l =
    fold g.H.Hasher.write l.state (flat_map fed_of_row (drop l.row l.self.rows)) ≡ fold g.H.Hasher.write l.fn.state (fed_of_key (key_of l.self))
