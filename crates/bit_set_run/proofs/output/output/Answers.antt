use Rattle.std.proofs.Common.{rules, arith}
use Rattle.bit_set_run.{specs.Output.output, proofs.OutputLemmas.{output-end, output-next, output-start}}
use Rattle.bit_set_run.proofs.output.output.Goals as goal

pub loop-line-init : goal.loop-line-init
loop-line-init g c = record {
  within = search rules;
  done = output-start c.new-text.result.items c.args.input.now c.new-table.result c.new-text.ensures.items c.new-table.ensures;
}

pub loop-line-preserved : goal.loop-line-preserved
loop-line-preserved g c = record {
  within = omega (arith, c.loop-line.invariant.within, c.in-Some.ensures.shorter);
  done =
      output-next c.loop-line.text.items c.reply_to_line.new.text.items c.loop-line.table c.reply_to_line.new.table c.loop-line.rest.now c.in-Some.line.now c.in-Some.after.now (output c.args.input.now)
      c.loop-line.invariant.done c.in-Some.ensures.lines c.in_ok-reply_to_line.ensures.text c.in_ok-reply_to_line.ensures.sets;
}

pub returns-clause-text : goal.returns-clause-text
returns-clause-text g c = output-end c.loop-line.text.items c.loop-line.rest.now (output c.args.input.now) c.loop-line.table c.loop-line.invariant.done c.in_default.ensures.lines
