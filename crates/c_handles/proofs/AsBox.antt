-- A box at the allocator of C, and its parts.
use mathlib.Core.List.{[]}
use mir.Syntax.{impl, tnil, dnil}
use denote.Param.Laws.{Laws}
use denote.Signature.{Slot, plain}
use denote.RattleType.{RattleType}
use Rattle.std.proofs.BoxSteps.Form.{Bx}
use Rattle.std.specs.contracts.alloc.Global as Heap
use Rattle.std.specs.contracts.impls.GlobalAllocator.TheImpl.{ghosts, dict}
use Rattle.std.proofs.alloc.Global.TheLaws as heap
use Rattle.c_handles.specs.contracts.parts.Parts as Parts

abbrev pub parts_row : RattleType → RattleType
parts_row X = Parts.the_row X Heap.the_row ghosts

abbrev pub FromParts : RattleType → Slot 0
FromParts X = plain (λ _. parts_row X)

abbrev pub box_of : (X : RattleType) → Laws X → Bx
box_of X laws = record { row = X; laws = laws; al = record { row = Heap.the_row; laws = heap.the_row_laws; g = ghosts; d = dict; drops = impl [] tnil dnil } }
