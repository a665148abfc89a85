use Rattle.std.proofs.Common.{◌≡◌, subst}
use Rattle.std.specs.Prelude.{IfOk}
use Rattle.unit_tree.specs.Orders.{line_of_output}
use Rattle.unit_tree.specs.declared.system.PortName.{PortName}
use Rattle.unit_tree.specs.declared.system.System.{System}
use Rattle.unit_check.proofs.output_lines.line_of_output.Goals as goal

pub returns : goal.returns
returns c =
    let port : PortName = record { instance = c.args.instance.now; port = c.args.output.now } in
    subst (λ (s : System). IfOk c.declaring_line.result (λ line. line ≡ line_of_output s port)) c.in_ok-tables.ensures c.declaring_line.ensures
