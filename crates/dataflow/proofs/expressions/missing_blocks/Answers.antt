use Rattle.std.proofs.{Common.{◌≡◌, List, ℕ, ap, length, map, if◌then◌else◌, ◌∙◌}, lemmas.List.take_all}
use Rattle.bit_set.specs.Sets.{difference, elements}
use Rattle.dataflow.specs.{Availability.{flow_of, missing_flow, starts_with_none}, Flow.Flow}
use Rattle.dataflow.proofs.TakeLemmas.{push_mapped}
use Rattle.dataflow.proofs.expressions.missing_blocks.Goals.{then-none+in_ok-missing, else-none+in_ok-missing-2}
use Rattle.dataflow.proofs.expressions.missing_blocks.Goals as goal

pub loop-block-init : goal.loop-block-init
loop-block-init g c = ap (λ list. map flow_of list) c.in_ok-missing_blocks.ensures.items

pub loop-block-preserved : goal.loop-block-preserved
loop-block-preserved g c =
    let blocks = c.args.blocks.now in
    let all = elements c.args.all.now.values in
    let block = c.block-item.result in
    let starts : c.starts_empty-none.result ≡ starts_with_none block.predecessors.items (length blocks) =
    c.starts_empty-none.ensures ∙ ap (λ l. starts_with_none l (length blocks)) c.as_slice.ensures.value in
    let chosen : elements c.if-none.missing.values ≡ (if starts_with_none block.predecessors.items (length blocks) then all else elements block.killed.values) = elim c.if-none.branch [
      | then-none+in_ok-missing w ↦ rw (w.missing-is, ← starts, w.if-none.true) (ap elements w.in_ok-missing.ensures.values)
      | else-none+in_ok-missing-2 w ↦ rw (w.missing-is, ← starts, w.if-none.false) (ap elements w.in_ok-missing-2.ensures.values)
    ] in
    let flow : List ℕ → Flow = λ generated. record { sources = block.predecessors.items; generated = generated; killed = elements block.computed.values } in
    rw c.in_ok-push.ensures.items (push_mapped (missing_flow (length blocks) all) flow_of blocks c.loop-block.block-index
    block c.loop-block.missing_blocks.items _ c.loop-block-test.true c.block-item.is c.loop-block.invariant
    (ap flow (c.in_ok-difference_with.ensures.elements ∙ ap (λ s. difference s (elements block.computed.values)) chosen)))

pub returns-clause-missing : goal.returns-clause-missing
returns-clause-missing g c =
    c.loop-block.invariant ∙ ap (map (missing_flow (length c.args.blocks.now) (elements c.args.all.now.values))) (take_all _ _ c.loop-block-test.false)
