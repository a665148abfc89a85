use Rattle.std.proofs.Common.{◌≡◌, ◌++◌, drop, map}
use Rattle.std.specs.List.{filter_map}
use Rattle.std.specs.Option.{option_map}
use Rattle.trace_csv.specs.Columns.{column_of, columns_of}
use Rattle.unit_tree.specs.Names.{output_at}
use Rattle.wire_graph.specs.Wiring.{port_with}
use Rattle.trace_plan.proofs.columns.columns.Given as goal

abbrev pub invariant-loop-port : goal.invariant-loop-port
invariant-loop-port l =
    l.columns.items ++ filter_map (λ port. option_map (column_of l.checked port) (output_at l.checked port)) (map port_with (drop l.port-index l.port-items))
    ≡ columns_of l.checked
