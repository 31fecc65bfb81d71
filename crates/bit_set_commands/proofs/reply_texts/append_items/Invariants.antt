use Rattle.std.{specs.{List.join_by, Prelude.{codes, decimal}}, proofs.Common.{◌≡◌, ◌++◌, take}}
use Rattle.bit_set_commands.proofs.reply_texts.append_items.Given as goal

abbrev pub invariant-loop-place : goal.invariant-loop-place
invariant-loop-place l =
    l.out.items ≡ l.fn.out.items ++ (codes "{" ++ join_by decimal (codes ", ") (take l.place l.items))
