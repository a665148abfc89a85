use Rattle.std.proofs.Common.{◌∙◌}
use Rattle.wire_graph.specs.Wiring.{port_with}
use Rattle.wire_graph.proofs.OriginLaws.{wire_found, no_wire}
use Rattle.wire_graph.proofs.origins.wire_to.Goals as goal

pub returns-in-Some : goal.returns-in-Some
returns-in-Some c =
    wire_found (port_with c.args.port) c.args.system.now.wires c.found.result c.in-Some.at c.get.result
    (c.found.ensures ∙ c.requires.targets c.args.port) c.in-Some.is c.get.ensures.value

pub returns-in-None : goal.returns-in-None
returns-in-None c = no_wire (port_with c.args.port) c.args.system.now.wires c.found.result (c.found.ensures ∙ c.requires.targets c.args.port) c.in-None.is
