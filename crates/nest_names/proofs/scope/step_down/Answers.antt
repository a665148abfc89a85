use Rattle.std.proofs.Common.{◌≡◌, ◌∙◌, Bor, Some, ap, bytes_eq, sym}
use Rattle.std.specs.List.{find}
use Rattle.std.specs.Option.{option_map}
use Rattle.nest_text.specs.declared.nest.Bind.{Bind}
use Rattle.nest_text.specs.declared.nest.Group.{Group}
use Rattle.nest_names.specs.Flattening.{binds_of, place_at}
use Rattle.nest_names.specs.declared.scope.Spot.{Spot}
use Rattle.nest_names.proofs.FlatLaws.{step_some}
use Rattle.nest_names.proofs.scope.step_down.Goals as goal

pub returns : goal.returns
returns c =
    let nest = c.args.names.now in
    let from : Spot = record { scope = c.args.scope.now; port = c.args.port.now } in
    let place = c.in_ok-place.place in
    let line = c.in_ok-line.line.now in
    let outs = binds_of nest (λ (group : Group). group.outs) (Some place) in
    let at : place_at nest from.scope.group from.port.instance ≡ Some place =
    sym (ap (place_at nest from.scope.group) c.as_slice.ensures) ∙ sym c.place_at.ensures ∙ c.in_ok-place.was in
    let out : find (λ (bind : Bind). bytes_eq bind.port from.port.port) outs ≡ Some line =
    ap (λ port. find (λ (bind : Bind). bytes_eq bind.port port) outs) (sym c.as_slice-2.ensures) ∙ sym c.out_named.ensures
    ∙ ap (option_map (λ (b : Bor Bind). b.now)) c.in_ok-line.was in
    sym (step_some nest from place line at out)
