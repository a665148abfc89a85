use Rattle.std.proofs.Common.{◌∙◌, true, ap, sym}
use Rattle.std.specs.Option.{option_map}
use Rattle.trace_plan.proofs.PortsByName.{plain_found, event_found}
use Rattle.trace_plan.proofs.columns.declared_in.Goals as goal

pub returns-in-Some : goal.returns-in-Some
returns-in-Some c =
    plain_found c.args.unit.now c.args.name.now c.as_slice.result.now c.as_slice.ensures c.output_type.result c.output_type.ensures c.in-Some.ty c.in-Some.is

pub returns-in-Some-event_type : goal.returns-in-Some-event_type
returns-in-Some-event_type c = ap (option_map (λ ty. (ty, true))) (sym c.in-Some-event_type.is)
    ∙ event_found c.args.unit.now c.args.name.now c.as_slice.result.now c.as_slice.ensures c.output_type.result c.output_type.ensures c.in-None.is
    c.as_slice-in-None.result.now c.as_slice-in-None.ensures c.event_type.result c.event_type.ensures

pub returns-in-None-event_type : goal.returns-in-None-event_type
returns-in-None-event_type c = ap (option_map (λ ty. (ty, true))) (sym c.in-None-event_type.is)
    ∙ event_found c.args.unit.now c.args.name.now c.as_slice.result.now c.as_slice.ensures c.output_type.result c.output_type.ensures c.in-None.is
    c.as_slice-in-None.result.now c.as_slice-in-None.ensures c.event_type.result c.event_type.ensures
