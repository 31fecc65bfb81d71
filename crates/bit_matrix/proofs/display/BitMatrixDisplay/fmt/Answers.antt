use Rattle.std.{proofs.{Common.{◌+◌, ◌<◌, ◌∷◌, [], ◌++◌, ap, sym, ◌∙◌, append_assoc, drop, length, refl, rules, arith}, Output.has_written_append, lemmas.List.{drop_more}}, specs.Prelude.{codes}}
use Rattle.bit_set.specs.Texts.{items_text}
use Rattle.bit_matrix.specs.Compared.{rows_text}
use Rattle.bit_matrix.proofs.display.BitMatrixDisplay.fmt.Goals as goal

pub loop-row-init : goal.loop-row-init
loop-row-init g c = λ plain. ([], search rules, refl)

pub loop-row-preserved : goal.loop-row-preserved
loop-row-preserved g c =
    λ plain.
    let so_far = c.loop-row.invariant plain in
    let rows = c.args.self.now.rows in
    let row = c.in_ok-write_row.ensures (search rules) refl in
    let end = c.in_ok-write_str.ensures.writes (search rules) refl in
    let line = items_text c.iter.result ++ codes "\n" in
    let within : c.loop-row.row < length rows = omega (arith, c.loop-row-test.true, c.rows-row-end.ensures.value) in (
      so_far.0 ++ line,
      has_written_append _ _ _ _ _ _ so_far.1 (has_written_append _ _ _ _ _ _ row end),
      append_assoc so_far.0 line _ ∙ ap (λ xss. so_far.0 ++ rows_text xss)
          (ap (λ x. x ∷ drop (c.loop-row.row + 1) rows) c.iter.ensures.left ∙ sym (drop_more rows c.loop-row.row [] within))
          ∙ so_far.2,
    )
