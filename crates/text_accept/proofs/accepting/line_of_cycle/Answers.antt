use Rattle.std.proofs.Common.{sym, ◌∙◌, ap}
use Rattle.text_accept.proofs.CycleLines.{cycle_line, some_line}
use Rattle.text_accept.proofs.accepting.line_of_cycle.Goals as goal
use Rattle.unit_tree.specs.Orders.{line_of_output}
use Rattle.unit_tree.specs.declared.system.PortName.{PortName}
use Rattle.unit_tree.specs.declared.system.System.{System}

pub unwrap-requires : goal.unwrap-requires
unwrap-requires c =
    let names : PortName = record { instance = c.in_ok-instance.instance.now; port = c.in_ok-instance.output.now } in
    let line =
    cycle_line c.args.checked.now c.system.ensures.ranged c.system.ensures.well_formed c.args.instance c.args.output c.requires.fault names
    c.in_ok-instance.ensures c.without_mark.result.now c.without_mark.ensures in
    let port : PortName = record { instance = c.in_ok-instance.instance.now; port = c.without_mark.result.now } in
    some_line c.in_ok-line.line line.item (c.in_ok-line.ensures ∙ ap (λ (s : System). line_of_output s port) c.source.ensures ∙ line.declared)

pub returns : goal.returns
returns c =
    let names : PortName = record { instance = c.in_ok-instance.instance.now; port = c.in_ok-instance.output.now } in
    let line =
    cycle_line c.args.checked.now c.system.ensures.ranged c.system.ensures.well_formed c.args.instance c.args.output c.requires.fault names
    c.in_ok-instance.ensures c.without_mark.result.now c.without_mark.ensures in
    let port : PortName = record { instance = c.in_ok-instance.instance.now; port = c.without_mark.result.now } in
    record {
      port = port;
      first = line.first;
      declared = ap (λ (s : System). line_of_output s port) (sym c.source.ensures) ∙ sym c.in_ok-line.ensures
          ∙ c.unwrap.ensures;
    }
