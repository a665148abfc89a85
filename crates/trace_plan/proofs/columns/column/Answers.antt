use Rattle.std.proofs.Common.{◌∙◌, ap, sym}
use Rattle.std.specs.Option.{option_map}
use Rattle.trace_plan.specs.Shown.{type_and_event}
use Rattle.unit_tree.specs.Names.{output_at}
use Rattle.unit_tree.specs.declared.system.System.{System}
use Rattle.wire_graph.specs.Wiring.{port_with}
use Rattle.trace_plan.proofs.ColumnsPut.{placed_by}
use Rattle.trace_plan.proofs.columns.column.Goals as goal

pub placed-requires : goal.placed-requires
placed-requires c =
    placed_by c.args.checked.now c.system.result.now c.args.starts.now (port_with c.args.port)
    (c.in_ok-ty.ty, c.in_ok-ty.event) c.system.ensures.ranged c.system.ensures.well_formed c.system.ensures.plain c.requires
    (ap (λ (s : System). option_map type_and_event (output_at s (port_with c.args.port))) (sym c.source.ensures) ∙ sym c.declared_at.ensures ∙ c.in_ok-ty.was)
