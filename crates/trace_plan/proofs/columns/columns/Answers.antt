use Rattle.std.proofs.Common.{◌≤◌, length, sym, subst}
use Rattle.trace_plan.specs.Shown.{FewOutputs}
use Rattle.unit_tree.specs.declared.system.System.{System}
use Rattle.trace_plan.proofs.ColumnsPut.{one_put}
use Rattle.trace_plan.proofs.ShownOutputs.{run_instances, few_outputs}
use Rattle.std.specs.Option.{option_map}
use Rattle.trace_csv.specs.Columns.{column_of, columns_of}
use Rattle.unit_tree.specs.Names.{output_at}
use Rattle.wire_graph.specs.Wiring.{port_with}
use Rattle.trace_plan.proofs.columns.columns.Goals as goal

pub starts-requires-clause-instances : goal.starts-requires-clause-instances
starts-requires-clause-instances c =
    subst (λ (s : System). length s.instances ≤ 64) (sym c.system.ensures.plain)
    (run_instances c.args.checked.now c.system.ensures.ranged c.system.ensures.well_formed)

pub starts-requires-clause-outputs : goal.starts-requires-clause-outputs
starts-requires-clause-outputs c =
    subst FewOutputs (sym c.system.ensures.plain) (few_outputs c.args.checked.now c.system.ensures.ranged c.system.ensures.well_formed)

pub loop-port-preserved : goal.loop-port-preserved
loop-port-preserved c =
    let checked = c.args.checked.now in
    let ports = c.as_slice-port-items.result.now in
    let place = c.loop-port.port-index in
    one_put port_with (λ port. option_map (column_of checked port) (output_at checked port)) ports place _ c.loop-port-test.true
    (columns_of checked) c.loop-port.columns.items c.put_if.new.columns.items c.column.result c.loop-port.invariant c.column.ensures c.in_ok-put_if.ensures
