use Rattle.std.proofs.Common.{◌∙◌, ap, sym, refl, not, ◌&&◌}
use Rattle.std.specs.List.{list_any}
use Rattle.std.specs.Str.{bytes_eq}
use Rattle.unit_plain.proofs.EventPorts.{event_port}
use Rattle.unit_plain.proofs.systems.is_event_port.Goals as goal

pub returns-then-not-has_output : goal.returns-then-not-has_output
returns-then-not-has_output c =
    ap (λ here. not here && c.has_event_output.result) (sym c.if-not-has_output.true)
    ∙ event_port c.args.unit.now c.args.name.now c.as_slice.result.now c.as_slice-then-not-has_output.result.now c.has_output.result c.has_event_output.result
    c.as_slice.ensures c.as_slice-then-not-has_output.ensures c.has_output.ensures c.has_event_output.ensures

pub returns-else-not-has_output : goal.returns-else-not-has_output
returns-else-not-has_output c =
    ap not c.if-not-has_output.false
    ∙ ap (λ here. not here && list_any (λ event. bytes_eq event.name c.args.name.now) c.args.unit.now.events_out) (sym c.if-not-has_output.false)
    ∙ event_port c.args.unit.now c.args.name.now c.as_slice.result.now c.args.unit.now.events_out c.has_output.result
    (list_any (λ event. bytes_eq event.name c.args.name.now) c.args.unit.now.events_out) c.as_slice.ensures refl c.has_output.ensures refl
