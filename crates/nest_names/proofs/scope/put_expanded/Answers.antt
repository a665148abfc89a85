use Rattle.std.proofs.Common.{◌≡◌, ◌∙◌, ◌++◌, Some, ap, append-nil, bytes_eq, map, sym}
use Rattle.std.specs.List.{filter}
use Rattle.std.proofs.lemmas.List.{drop_all}
use Rattle.nest_text.specs.declared.nest.Bind.{Bind}
use Rattle.nest_text.specs.declared.nest.Group.{Group}
use Rattle.nest_names.specs.Flattening.{binds_of, place_at, spot_in}
use Rattle.nest_names.specs.Tables.{items_at}
use Rattle.nest_names.proofs.FlatLaws.{expand_group}
use Rattle.nest_names.proofs.scope.put_expanded.Goals as goal

pub returns : goal.returns
returns c =
    let nest = c.args.names.now in
    let from = c.args.from.now in
    let place = c.in-Some.place in
    let ins = c.ins-ins.result.now in
    let lines = c.ins_named-line-items.result.now in
    let binds = binds_of nest (λ (group : Group). group.ins) (Some place) in
    let scope = c.in_ok-scope.scope in
    let old = c.args.spots.now in
    let at : place_at nest from.scope.group from.port.instance ≡ Some place =
    sym (ap (place_at nest from.scope.group) c.as_slice.ensures) ∙ sym c.place_at.ensures ∙ c.in-Some.is in
    let named : items_at ins lines ≡ filter (λ (bind : Bind). bytes_eq bind.port from.port.port) binds =
    ap (λ all. items_at all lines) c.ins-ins.ensures ∙ c.ins_named-line-items.ensures
    ∙ ap (λ port. filter (λ (bind : Bind). bytes_eq bind.port port) binds) c.as_slice-2.ensures in
    sym (append-nil c.loop-line.spots)
    ∙ ap (λ rest. c.loop-line.spots ++ map (spot_in scope) (items_at ins rest)) (sym (drop_all c.loop-line.line-index lines c.loop-line-test.false))
    ∙ c.loop-line.invariant
    ∙ ap (λ all. old ++ map (spot_in scope) all) named
    ∙ ap (λ within. old ++ map (spot_in within) (filter (λ (bind : Bind). bytes_eq bind.port from.port.port) binds)) c.in_ok-scope.ensures
    ∙ ap (λ all. old ++ all) (sym (expand_group nest from place at))
