use Rattle.std.proofs.Common.{sym, ◌∙◌, ap, Err}
use Rattle.unit_check.proofs.DeclaringLines.{none_found, none_at_end, some_at_stop}
use Rattle.unit_check.specs.declared.walk.Stop.{Stop}
use Rattle.unit_tree.specs.declared.system.PortName.{PortName}
use Rattle.unit_check.proofs.output_lines.declaring_line.Goals as goal

pub returns-in_default : goal.returns-in_default
returns-in_default c =
    let port : PortName = record { instance = c.args.instance.now; port = c.args.output.now } in
    sym (none_found c.args.tables.now port (sym c.in_default.ensures))

pub returns-in-Ok : goal.returns-in-Ok
returns-in-Ok c =
    let port : PortName = record { instance = c.args.instance.now; port = c.args.output.now } in
    none_at_end c.args.tables.now port c.in-Some.unit.now c.past_all.result c.in-Ok.field-0 c.in-Some.ensures c.past_all.ensures c.in-Ok.is

pub returns-in-Err-At : goal.returns-in-Err-At
returns-in-Err-At c =
    let port : PortName = record { instance = c.args.instance.now; port = c.args.output.now } in
    some_at_stop c.args.tables.now port c.in-Some.unit.now c.past_all.result c.in-Err-At.line c.in-Some.ensures c.past_all.ensures
    (c.in-Err-At.is ∙ ap (λ (why : Stop). Err why) c.in-Err-At.field-0-is)
