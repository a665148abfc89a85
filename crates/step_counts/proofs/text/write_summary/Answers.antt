use Rattle.std.proofs.Common.{rules, ◌∙◌, ◌++◌, ap}
use Rattle.list_laws.proofs.Options.{on_ok}
use Rattle.step_counts.proofs.SummaryText.{summed}
use Rattle.step_counts.specs.Summaries.{instance_lines}
use Rattle.step_counts.proofs.text.write_summary.Goals as goal

pub returns : goal.returns
returns c = λ steps is.
    on_ok c.append_instances.result _ _
    (λ rest. summed c.args.system.now steps c.args.outcome c.args.counts.now c.faulted_by-faulted.result _ c.args.out.now.items
    c.append_totals.new.out.items c.append_instances.new.out.items is c.faulted_by-faulted.ensures (search rules) c.in_ok-append_totals.ensures
    (rest ∙ ap (λ all. c.append_totals.new.out.items ++ instance_lines c.args.system.now c.faulted_by-faulted.result all) c.as_slice.ensures.value))
    c.append_instances.ensures
