use Rattle.std.proofs.Common.{◌≡◌, ◌∙◌, ◌<◌, length, ap, sym, refl, subst}
use Rattle.std.proofs.lemmas.Option.{slice_get_read}
use Rattle.std.specs.Prelude.{slice_get, Some}
use Rattle.port_solve.proofs.Fronts.{can_be_asked}
use Rattle.port_solve.proofs.OneByOne.{asked_there}
use Rattle.port_solve.proofs.SoundRuns.{runs_are_sound}
use Rattle.port_solve.proofs.one_by_one.ask.Goals as goal
use Rattle.unit_tree.specs.Compositions.{run_of}
use Rattle.unit_tree.specs.Routes.{routes_of}

pub outcome-requires : goal.outcome-requires
outcome-requires g c =
    let run = run_of c.args.checked.now in
    let sound = runs_are_sound c.args.checked.now c.system.ensures.ranged c.system.ensures.well_formed in
    let routes = c.as_slice.result.now in
    let own = c.as_slice.ensures ∙ ap (λ r. r.outputs) c.routes.ensures.routes in
    let within : c.args.place < length routes = subst (λ all. c.args.place < length all) (sym own) c.requires.place in
    let read = slice_get_read routes (length routes) c.args.place c.index-as_slice-place.result refl within c.index-as_slice-place.is in
    let is_route : slice_get (routes_of run).outputs c.args.place ≡ Some c.index-as_slice-place.result =
    sym (ap (λ all. slice_get all c.args.place) (own ∙ ap (λ r. r.outputs) c.requires.order.routes)) ∙ read in
    rw c.requires.system
    (can_be_asked run (g.G.Gets.states c.args.gets.now) sound c.requires.states
    (g.G.Gets.inputs c.args.gets.now) c.args.place c.index-as_slice-place.result c.requires.inputs is_route)

pub returns-clause-given : goal.returns-clause-given
returns-clause-given g c = λ words same their.
    let run = run_of c.args.checked.now in
    let sound = runs_are_sound c.args.checked.now c.system.ensures.ranged c.system.ensures.well_formed in
    let routes = c.as_slice.result.now in
    let own = c.as_slice.ensures ∙ ap (λ r. r.outputs) c.routes.ensures.routes in
    let within : c.args.place < length routes = subst (λ all. c.args.place < length all) (sym own) c.requires.place in
    let read = slice_get_read routes (length routes) c.args.place c.index-as_slice-place.result refl within c.index-as_slice-place.is in
    let is_route : slice_get (routes_of run).outputs c.args.place ≡ Some c.index-as_slice-place.result =
    sym (ap (λ all. slice_get all c.args.place) (own ∙ ap (λ r. r.outputs) c.requires.order.routes)) ∙ read in
    rw c.requires.system at c.outcome.ensures.outcome
    ∙ asked_there run (g.G.Gets.states c.args.gets.now) sound c.requires.states c.args.known.now words
    (g.G.Gets.inputs c.args.gets.now) c.args.place c.index-as_slice-place.result same their c.requires.inputs is_route
