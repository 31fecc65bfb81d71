use Rattle.std.proofs.Common.{refl}
use Rattle.bit_set_commands.proofs.LineLemmas.{lines_of-first}
use Rattle.bit_set_commands.proofs.cutting.next_line.Goals as goal

pub returns-clause-lines : goal.returns-clause-lines
returns-clause-lines c =
    let s = c.split_once.ensures in
    lines_of-first c.args.input.now c.split_once.result _ c.unwrap_or.result c.if-is_empty.ensures s.whole s.first s.joined refl refl c.unwrap_or.ensures
