use Rattle.std.proofs.{Common.{[], ◌++◌, ap, sym, ◌∙◌, append-nil, append_assoc, refl, rules, subst}, Output.has_written_append, lemmas.{Bool.false≢true, Result.err_from_is_err_and}}
use Rattle.std.specs.{Prelude.codes, Fmt.HasWritten, List.flat_map}
use Rattle.bit_set.specs.RangeTexts.{run_text}
use Rattle.bit_set.proofs.display.ranges.write_rest.Goals as goal

pub loop-run-init : goal.loop-run-init
loop-run-init g c = λ plain. ([], search rules, search rules)

pub loop-run-preserved : goal.loop-run-preserved
loop-run-preserved g c =
    λ plain.
    let so_far = c.loop-run.invariant plain in
    let comma = c.in_ok-write_str.ensures.writes (search rules) refl in
    let run = c.in_ok-write_run.ensures (search rules) refl in
    let item = codes ", " ++ run_text c.in-Some.run' in (
      so_far.0 ++ item,
      has_written_append _ _ _ _ _ _ so_far.1 (has_written_append _ _ _ _ _ _ comma run),
      append_assoc so_far.0 item _ ∙ ap (λ l. so_far.0 ++ flat_map (λ r. codes ", " ++ run_text r) l) (sym c.in-Some.ensures.steps.item) ∙ so_far.2,
    )

pub returns-in_err-write_str : goal.returns-in_err-write_str
returns-in_err-write_str g c = λ plain ok. let p = err_from_is_err_and c.from_residual.result c.from_residual.ensures.1 in absurd (false≢true (rw p.1 at ok))

pub returns-in_err-write_run : goal.returns-in_err-write_run
returns-in_err-write_run g c =
    λ plain ok. let p = err_from_is_err_and c.from_residual-in_err-write_run.result c.from_residual-in_err-write_run.ensures.1 in absurd (false≢true (rw p.1 at ok))

pub returns : goal.returns
returns g c =
    λ plain ok.
    let so_far = c.loop-run.invariant plain in
    let none = c.in-None.ensures.steps.item.0 in
    subst (λ text. HasWritten g.W.Write.write_str_gives c.args.f.now text c.loop-run.f) (sym (append-nil so_far.0) ∙ rw none at so_far.2) so_far.1
