use Rattle.std.proofs.Common.{◌∙◌}
use Rattle.unit_tree.specs.Names.{same_port}
use Rattle.wire_graph.specs.Wiring.{port_with}
use Rattle.wire_graph.proofs.OriginLaws.{position_map}
use Rattle.wire_graph.proofs.origins.table_of.Goals as goal

pub returns : goal.returns
returns c = λ key. c.in_ok-table.ensures key ∙ position_map (same_port (port_with key)) port_with 0 c.args.ports.now
