use Rattle.std.{specs.Fmt.digits, proofs.Common.refl}
use Rattle.bit_set_run.proofs.laws.outputs_are_as_shown.Goals as goal

pub returns : goal.returns
unfolding digits
returns c = record {
  sets = refl;
  errors = refl;
  edges = refl;
  whole_sets = refl;
  rests = refl;
  in_place = refl;
  parts = refl;
  part_edges = refl;
  two_sets = refl;
  two_set_edges = refl;
  capacity = refl;
  whole_set_edges = refl;
  last_line = refl;
  nothing = refl;
}
