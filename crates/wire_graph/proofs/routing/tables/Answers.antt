use Rattle.std.proofs.Common.{List, ap, sym, subst, ◌∙◌, map, length}
use Rattle.std.proofs.lemmas.List.{length-map}
use Rattle.unit_tree.specs.declared.system.PortName.{PortName}
use Rattle.wire_graph.specs.Origins.{FindsPortPlaces}
use Rattle.wire_graph.specs.Wiring.{port_with, targets_of}
use Rattle.wire_graph.proofs.routing.tables.Goals as goal

pub returns : goal.returns
returns c =
    let is = c.in_ok-outputs.ensures ∙ c.requires in
    record {
      places = subst (λ (ports : List PortName). FindsPortPlaces ports c.in_ok-places.places)
          (ap (map port_with) c.deref.ensures.value ∙ is) c.in_ok-places.ensures;
      count = c.len.ensures ∙ c.in_ok-outputs.outputs.ok.0 ∙ sym (length-map c.in_ok-outputs.outputs.items port_with) ∙ ap length is;
      targets =
          subst (λ (ports : List PortName). FindsPortPlaces ports c.in_ok-targets-2.targets)
          (ap (map port_with) c.deref-2.ensures.value ∙ c.in_ok-targets.ensures ∙ ap targets_of c.as_slice.ensures) c.in_ok-targets-2.ensures;
    }
