-- The solution of a data-flow problem in the words of an analysis.
use Rattle.std.proofs.Common.{◌≡◌, ℕ, suc, zero, List, [], ◌∷◌, map, get_or, refl, ◌↔◌, true}
use Rattle.bit_set.specs.Sets.{elements, has}
use Rattle.dataflow.specs.Analyses.{AreLive, AreReachingDefinitions, IsLive, ReachesEnd, assigned_in, defined_before}
use Rattle.dataflow.specs.Analyses.{defined_here, defined_in, overwritten_in, predecessors_of, successors_of, used_here}
use Rattle.dataflow.specs.{Analyses.{used_in, used_later}, declared.definitions.DefinitionBlock.DefinitionBlock}
use Rattle.dataflow.specs.Flow.{AreReached, Flow, IsLeastSolution, Reaches, block_at, made, onward, set_at}
use Rattle.dataflow.specs.declared.variables.VariableBlock.{VariableBlock}

-- the parts of a block
pub block_of : {X : Type 0} (sources generated killed : X → List ℕ) (blocks : List X) (b : ℕ)
    → block_at (map (λ x. record { sources = sources x; generated = generated x; killed = killed x }) blocks) b
    ≡ record { sources = get_or (map sources blocks) b []; generated = get_or (map generated blocks) b []; killed = get_or (map killed blocks) b [] }
block_of sources generated killed [] b = refl
block_of sources generated killed (x ∷ xs) zero = refl
block_of sources generated killed (x ∷ xs) (suc b) = block_of sources generated killed xs b

-- ---- live variables

abbrev pub variable_flow : {B : Type 0} → VariableBlock B → Flow
variable_flow block = record { sources = block.successors.items; generated = elements block.used.values; killed = elements block.assigned.values }

module _ {B : Type 0} (blocks : List (VariableBlock B)) where
  at : (b : ℕ) → block_at (map variable_flow blocks) b ≡ record { sources = successors_of blocks b; generated = used_in blocks b; killed = assigned_in blocks b }
  at b = block_of (λ (x : VariableBlock B). x.successors.items) (λ x. elements x.used.values) (λ x. elements x.assigned.values) blocks b

  pub are_live : (sets : List (List ℕ)) → IsLeastSolution (map variable_flow blocks) sets → AreLive blocks sets
  are_live sets solution = record {
    equation = λ b v. rw (at b) at (solution.solves b v);
    least = λ others all b v h. solution.least others (λ c w due. all c w (rw (at c) at due)) b v h;
  }

  to_live : (v b : ℕ) → Reaches (map variable_flow blocks) v b → IsLive blocks v b
  to_live v b (made is) = used_here (rw (at b) at is)
  to_live v b (onward {s = s} source passes before) = used_later (rw (at b) at source) (rw (at b) at passes) (to_live v s before)

  of_live : (v b : ℕ) → IsLive blocks v b → Reaches (map variable_flow blocks) v b
  of_live v b (used_here is) = made (rw (at b) is)
  of_live v b (used_later {s = s} successor passes after) = onward (rw (at b) successor) (rw (at b) passes) (of_live v s after)

  pub each_live : (sets : List (List ℕ)) → AreReached (map variable_flow blocks) sets → (b v : ℕ) → (has (set_at sets b) v ≡ true) ↔ IsLive blocks v b
  each_live sets reached b v = (λ h. to_live v b ((reached b v).0 h), λ live. (reached b v).1 (of_live v b live))

-- ---- reaching definitions

abbrev pub definition_flow : {B : Type 0} → DefinitionBlock B → Flow
definition_flow block = record { sources = block.predecessors.items; generated = elements block.defined.values; killed = elements block.overwritten.values }

module _ {B : Type 0} (blocks : List (DefinitionBlock B)) where
  at_definitions : (b : ℕ) → block_at (map definition_flow blocks) b ≡ record { sources = predecessors_of blocks b; generated = defined_in blocks b; killed = overwritten_in blocks b }
  at_definitions b = block_of (λ (x : DefinitionBlock B). x.predecessors.items) (λ x. elements x.defined.values) (λ x. elements x.overwritten.values) blocks b

  pub are_reaching : (sets : List (List ℕ)) → IsLeastSolution (map definition_flow blocks) sets → AreReachingDefinitions blocks sets
  are_reaching sets solution = record {
    equation = λ b v. rw (at_definitions b) at (solution.solves b v);
    least = λ others all b v h. solution.least others (λ c w due. all c w (rw (at_definitions c) at due)) b v h;
  }

  to_reaching : (v b : ℕ) → Reaches (map definition_flow blocks) v b → ReachesEnd blocks v b
  to_reaching v b (made is) = defined_here (rw (at_definitions b) at is)
  to_reaching v b (onward {s = s} source passes before) = defined_before (rw (at_definitions b) at source) (rw (at_definitions b) at passes) (to_reaching v s before)

  of_reaching : (v b : ℕ) → ReachesEnd blocks v b → Reaches (map definition_flow blocks) v b
  of_reaching v b (defined_here is) = made (rw (at_definitions b) is)
  of_reaching v b (defined_before {p = p} predecessor passes before) = onward (rw (at_definitions b) predecessor) (rw (at_definitions b) passes) (of_reaching v p before)

  pub each_reaching : (sets : List (List ℕ)) → AreReached (map definition_flow blocks) sets → (b v : ℕ) → (has (set_at sets b) v ≡ true) ↔ ReachesEnd blocks v b
  each_reaching sets reached b v = (λ h. to_reaching v b ((reached b v).0 h), λ reaches. (reached b v).1 (of_reaching v b reaches))
