-- The texts of replies.
use Rattle.std.specs.{List.join_by, Prelude.{ℕ, if◌then◌else◌, List, ◌++◌, codes, decimal}}
use Rattle.std.specs.{declared.cmp.Ordering.Ordering, declared.cmp.Ordering.TheVariants.{Less, Equal, Greater}}
use Rattle.bit_set_commands.specs.{declared.commands.Reply.Reply, declared.reading.BadLine.BadLine}
use Rattle.bit_set_commands.specs.declared.commands.Reply.TheVariants.{Truth, Done, Number, Items, Order, Rest, Element, Same}
use Rattle.bit_set_commands.specs.declared.reading.BadLine.TheVariants.{BadCommand, BadNumber}

-- the text of some numbers: in decimal, joined by a comma and a space, between braces
abbrev pub items_text : List ℕ → List ℕ
items_text ns = codes "{" ++ join_by decimal (codes ", ") ns ++ codes "}"

-- the text of an order
abbrev pub text_of_order : Ordering → List ℕ
text_of_order Less = codes "Less"
text_of_order Equal = codes "Equal"
text_of_order Greater = codes "Greater"

-- the text of a reply
abbrev pub text_of : Reply → List ℕ
text_of (Truth b) = if b then codes "true" else codes "false"
text_of (Number n) = decimal n
text_of (Items ns) = items_text ns
text_of (Order order) = text_of_order order
text_of Done = codes "ok"
text_of (Rest count ns) = decimal count ++ codes " " ++ items_text ns
text_of Element = codes "refused element"
text_of Same = codes "refused same"

-- the text of a line that is no command
abbrev pub text_of_bad : BadLine → List ℕ
text_of_bad BadCommand = codes "bad command"
text_of_bad BadNumber = codes "bad number"
