use Rattle.std.proofs.Common.{◌∙◌, ap, sym, arith}
use Rattle.std.specs.Option.{option_map}
use Rattle.wire_graph.specs.Wiring.{port_with}
use Rattle.trace_plan.proofs.ColumnsPut.{unit_is, some_there, output_low, place_low, start_within, column_is}
use Rattle.trace_plan.proofs.columns.placed.Goals as goal

pub unwrap-unit-requires : goal.unwrap-unit-requires
unwrap-unit-requires c =
    some_there (λ unit. unit.now) c.unit_of.result _
    (c.unit_of.ensures
    ∙ unit_is c.args.system.now c.args.starts.now
    (port_with c.args.port) c.requires c.instance_number-number.result c.as_slice.result.now c.as_slice.ensures c.instance_number-number.ensures
    c.as_slice-2.result.now c.as_slice-2.ensures c.index-as_slice-number.result c.index-as_slice-number.is)

pub overflow_cast-output : goal.overflow_cast-output
overflow_cast-output c =
    omega (
      arith,
      output_low c.args.system.now c.args.starts.now
          (port_with c.args.port) c.requires c.instance_number-number.result c.as_slice.result.now c.as_slice.ensures c.instance_number-number.ensures
          c.as_slice-2.result.now c.as_slice-2.ensures c.index-as_slice-number.result c.index-as_slice-number.is c.unwrap-unit.result.now
          (ap (option_map (λ unit. unit.now)) (sym c.unwrap-unit.ensures)
          ∙ c.unit_of.ensures) c.output_number-output.result c.as_slice-3.result.now c.as_slice-3.ensures c.output_number-output.ensures,
    )

pub bounds-starts-number : goal.bounds-starts-number
bounds-starts-number c =
    start_within c.args.system.now c.args.starts.now
    (port_with c.args.port) c.requires c.instance_number-number.result c.as_slice.result.now c.as_slice.ensures c.instance_number-number.ensures

pub overflow_add-result : goal.overflow_add-result
overflow_add-result c =
    omega (
      arith,
      place_low c.args.system.now c.args.starts.now
          (port_with c.args.port) c.requires c.instance_number-number.result c.as_slice.result.now c.as_slice.ensures c.instance_number-number.ensures
          c.as_slice-2.result.now c.as_slice-2.ensures c.index-as_slice-number.result c.index-as_slice-number.is c.unwrap-unit.result.now
          (ap (option_map (λ unit. unit.now)) (sym c.unwrap-unit.ensures)
          ∙ c.unit_of.ensures) c.output_number-output.result c.as_slice-3.result.now c.as_slice-3.ensures c.output_number-output.ensures,
    )

pub returns : goal.returns
returns c =
    column_is c.args.system.now c.args.starts.now
    (port_with c.args.port) c.requires c.instance_number-number.result c.as_slice.result.now c.as_slice.ensures c.instance_number-number.ensures
    c.as_slice-2.result.now c.as_slice-2.ensures c.index-as_slice-number.result c.index-as_slice-number.is c.unwrap-unit.result.now
    (ap (option_map (λ unit. unit.now)) (sym c.unwrap-unit.ensures)
    ∙ c.unit_of.ensures) c.output_number-output.result c.as_slice-3.result.now c.as_slice-3.ensures c.output_number-output.ensures c.args.ty c.args.event
