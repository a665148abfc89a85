use Rattle.std.proofs.Common.{ap, sym, ◌∙◌}
use Rattle.std.specs.Prelude.{unwrap_or}
use Rattle.unit_tree.specs.Names.{same_port}
use Rattle.unit_tree.specs.Orders.{outputs_of}
use Rattle.wire_graph.specs.Wiring.{port_with}
use Rattle.wire_graph.proofs.OriginLaws.{place_or_count}
use Rattle.wire_graph.proofs.origins.place.Goals as goal

pub returns-in-Some : goal.returns-in-Some
returns-in-Some c =
    ap (λ found. unwrap_or found c.args.tables.now.count) (sym c.in-Some.is)
    ∙ place_or_count (same_port (port_with c.args.port)) (outputs_of c.args.system.now) c.found.result c.args.tables.now.count
    (c.found.ensures ∙ c.requires.places c.args.port) c.requires.count

pub returns-in-None : goal.returns-in-None
returns-in-None c =
    ap (λ found. unwrap_or found c.args.tables.now.count) (sym c.in-None.is)
    ∙ place_or_count (same_port (port_with c.args.port)) (outputs_of c.args.system.now) c.found.result c.args.tables.now.count
    (c.found.ensures ∙ c.requires.places c.args.port) c.requires.count
