use Rattle.std.proofs.Common.{◌≡◌, ◌∙◌, ◌<◌, length, refl, ap, subst, sym}
use Rattle.std.proofs.lemmas.Option.{slice_get_read}
use Rattle.std.specs.Prelude.{slice_get, Some}
use Rattle.link_core.proofs.AskedOutputs.{asked_there, undefined_there, word_fits}
use Rattle.link_core.proofs.words.determined.Goals as goal
use Rattle.port_solve.specs.Solved.{HaveStates}
use Rattle.trace_plan.specs.Plans.{Planned}
use Rattle.unit_tree.specs.Compositions.{run_of}
use Rattle.unit_tree.specs.Routes.{routes_of}

pub returns-then-is_one_undefined-clause-seen : goal.returns-then-is_one_undefined-clause-seen
returns-then-is_one_undefined-clause-seen c =
    let run = c.args.plan.now.run in
    let routes = c.as_slice.result.now in
    let own : routes ≡ (routes_of run).outputs = c.as_slice.ensures ∙ ap (λ r. r.outputs) (c.routes.ensures.routes ∙ c.order.ensures.routes) in
    let within : c.args.place < length routes = subst (λ all. c.args.place < length all) (sym own) c.requires.place in
    let read = slice_get_read routes (length routes) c.args.place c.index-as_slice-place.result refl within c.index-as_slice-place.is in
    let is_route : slice_get (routes_of run).outputs c.args.place ≡ Some c.index-as_slice-place.result = sym (ap (λ all. slice_get all c.args.place) own)
    ∙ read in
    let have = subst (λ (plan : Planned). HaveStates plan.run c.args.units.now.states) c.requires.tied c.count.ensures.states in
    undefined_there run c.args.units.now.states have c.args.place c.index-as_slice-place.result is_route c.args.notes.now.words.items c.deref.result.now
    c.deref.ensures.value c.as_slice-2.result.now c.as_slice-2.ensures
    c.is_one_undefined.result c.is_one_undefined.ensures c.if-is_one_undefined.true

pub returns-clause-seen : goal.returns-clause-seen
returns-clause-seen c =
    let run = c.args.plan.now.run in
    let routes = c.as_slice.result.now in
    let own : routes ≡ (routes_of run).outputs = c.as_slice.ensures ∙ ap (λ r. r.outputs) (c.routes.ensures.routes ∙ c.order.ensures.routes) in
    let within : c.args.place < length routes = subst (λ all. c.args.place < length all) (sym own) c.requires.place in
    let read = slice_get_read routes (length routes) c.args.place c.index-as_slice-place.result refl within c.index-as_slice-place.is in
    let is_route : slice_get (routes_of run).outputs c.args.place ≡ Some c.index-as_slice-place.result = sym (ap (λ all. slice_get all c.args.place) own)
    ∙ read in
    let have = subst (λ (plan : Planned). HaveStates plan.run c.args.units.now.states) c.requires.tied c.count.ensures.states in
    let same : run ≡ run_of c.checked.result.now = c.checked.ensures.run ∙ ap run_of (sym c.checked.ensures.system) in
    asked_there run c.args.units.now.states have c.args.place c.index-as_slice-place.result is_route c.args.notes.now.words.items c.deref.result.now
    c.deref.ensures.value c.as_slice-2.result.now c.as_slice-2.ensures
    c.is_one_undefined.result c.is_one_undefined.ensures
    c.args.units.now.inputs
    (run_of c.checked.result.now) same c.deref-2.result.now c.args.notes.now.defined.items c.deref-2.ensures.value c.requires.notes.defined c.requires.words
    c.ask-given.result c.told.result c.told.ensures c.ask-given.ensures.given
    c.if-is_one_undefined.false

pub returns-clause-word : goal.returns-clause-word
returns-clause-word c =
    let run = c.args.plan.now.run in
    let routes = c.as_slice.result.now in
    let own : routes ≡ (routes_of run).outputs = c.as_slice.ensures ∙ ap (λ r. r.outputs) (c.routes.ensures.routes ∙ c.order.ensures.routes) in
    let within : c.args.place < length routes = subst (λ all. c.args.place < length all) (sym own) c.requires.place in
    let read = slice_get_read routes (length routes) c.args.place c.index-as_slice-place.result refl within c.index-as_slice-place.is in
    let is_route : slice_get (routes_of run).outputs c.args.place ≡ Some c.index-as_slice-place.result = sym (ap (λ all. slice_get all c.args.place) own)
    ∙ read in
    let have = subst (λ (plan : Planned). HaveStates plan.run c.args.units.now.states) c.requires.tied c.count.ensures.states in
    let same : run ≡ run_of c.checked.result.now = c.checked.ensures.run ∙ ap run_of (sym c.checked.ensures.system) in
    word_fits run c.args.units.now.states have c.args.place c.index-as_slice-place.result is_route c.args.notes.now.words.items c.deref.result.now
    c.deref.ensures.value c.as_slice-2.result.now c.as_slice-2.ensures
    c.is_one_undefined.result c.is_one_undefined.ensures
    c.args.units.now.inputs
    (run_of c.checked.result.now) same c.deref-2.result.now c.args.notes.now.defined.items c.deref-2.ensures.value c.requires.notes.defined c.requires.words
    c.ask-given.result c.told.result c.told.ensures c.ask-given.ensures.given
