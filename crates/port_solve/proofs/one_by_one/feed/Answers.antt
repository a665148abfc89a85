use Rattle.std.proofs.Common.{◌∙◌, ◌<◌, length, ap, sym, refl, subst, rules, w64, FitsSigned}
use Rattle.std.proofs.lemmas.Int.{to_z-of_z}
use Rattle.std.proofs.lemmas.Option.{slice_get_read}
use Rattle.std.specs.Prelude.{slice_get}
use Rattle.port_solve.specs.Solved.{all_with}
use Rattle.port_solve.proofs.OneByOne.{feeds_fit, fed_words}
use Rattle.port_solve.proofs.OutputPlaces.{feeds_there}
use Rattle.port_solve.proofs.SetWords.{shape_after}
use Rattle.port_solve.proofs.SoundRuns.{runs_are_sound}
use Rattle.port_solve.proofs.one_by_one.feed.Goals as goal
use Rattle.unit_tree.specs.Compositions.{run_of}

pub set_all-requires : goal.set_all-requires
set_all-requires g c =
    let run = run_of c.args.checked.now in
    let sound = runs_are_sound c.args.checked.now c.system.ensures.ranged c.system.ensures.well_formed in
    let routes = c.as_slice.result.now in
    let own = c.as_slice.ensures ∙ ap (λ r. r.outputs) c.routes.ensures.routes in
    let within : c.args.place < length routes = subst (λ all. c.args.place < length all) (sym own) c.requires.place in
    let read = slice_get_read routes (length routes) c.args.place c.index-as_slice-place.result refl within c.index-as_slice-place.is in
    let feeds_are =
    c.as_slice-2.ensures
    ∙ feeds_there run c.args.place c.index-as_slice-place.result
    (sym (ap (λ all. slice_get all c.args.place) (own ∙ ap (λ r. r.outputs) c.requires.order.routes)) ∙ read) in
    let fits : FitsSigned w64 c.args.word = search rules in
    rw (to_z-of_z w64 c.args.word fits, c.requires.system, feeds_are) (feeds_fit run sound c.args.place c.args.word c.requires.word)

pub returns-clause-set : goal.returns-clause-set
returns-clause-set g c =
    let routes = c.as_slice.result.now in
    let own = c.as_slice.ensures ∙ ap (λ r. r.outputs) c.routes.ensures.routes in
    let within : c.args.place < length routes = subst (λ all. c.args.place < length all) (sym own) c.requires.place in
    let read = slice_get_read routes (length routes) c.args.place c.index-as_slice-place.result refl within c.index-as_slice-place.is in
    let fits : FitsSigned w64 c.args.word = search rules in
    rw (sym (ap (λ all. slice_get all c.args.place) own) ∙ read) (rw (to_z-of_z w64 c.args.word fits, c.as_slice-2.ensures) at c.set_all.ensures.inputs)

pub returns-clause-words : goal.returns-clause-words
returns-clause-words g c = λ ports their.
    let run = run_of c.args.checked.now in
    let sound = runs_are_sound c.args.checked.now c.system.ensures.ranged c.system.ensures.well_formed in
    let routes = c.as_slice.result.now in
    let own = c.as_slice.ensures ∙ ap (λ r. r.outputs) c.routes.ensures.routes in
    let within : c.args.place < length routes = subst (λ all. c.args.place < length all) (sym own) c.requires.place in
    let read = slice_get_read routes (length routes) c.args.place c.index-as_slice-place.result refl within c.index-as_slice-place.is in
    let feeds_are =
    c.as_slice-2.ensures
    ∙ feeds_there run c.args.place c.index-as_slice-place.result
    (sym (ap (λ all. slice_get all c.args.place) (own ∙ ap (λ r. r.outputs) c.requires.order.routes)) ∙ read) in
    let fits : FitsSigned w64 c.args.word = search rules in
    let inputs = rw (to_z-of_z w64 c.args.word fits, feeds_are) at c.set_all.ensures.inputs in
    rw inputs (fed_words run sound c.args.place c.args.word (g.G.Gets.inputs c.args.gets.now) c.requires.inputs ports their)

pub returns-clause-inputs : goal.returns-clause-inputs
returns-clause-inputs g c =
    let run = run_of c.args.checked.now in
    let fits : FitsSigned w64 c.args.word = search rules in
    let inputs = rw (to_z-of_z w64 c.args.word fits) at c.set_all.ensures.inputs in
    rw inputs (shape_after run (all_with c.args.word c.as_slice-2.result.now) (g.G.Gets.inputs c.args.gets.now) c.requires.inputs)
