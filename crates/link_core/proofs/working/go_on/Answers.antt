use Rattle.std.proofs.Common.{◌∙◌, ap, subst, sym}
use Rattle.std.proofs.lemmas.Slice.Zip.{AllZip-long}
use Rattle.link_laws.specs.Making.{ports_in}
use Rattle.link_laws.specs.Nodes.{Making}
use Rattle.link_core.specs.Noted.{AreFed, making_in}
use Rattle.link_laws.specs.Boards.{are_nothing}
use Rattle.link_core.proofs.MakingAll.{fed_here}
use Rattle.link_core.proofs.NextRows.{moved_on}
use Rattle.link_laws.proofs.PlaceLaws.{nothing_fed}
use Rattle.link_core.proofs.working.go_on.Goals as goal
use Rattle.port_solve.specs.Solved.{HaveInputs, HaveStates, HaveTheirWords}
use Rattle.trace_plan.specs.Plans.{Planned}
use Rattle.trace_units.specs.Fleets.{Fleet}

pub returns-in-On-clause-moved : goal.returns-in-On-clause-moved
returns-in-On-clause-moved c = λ kept.
    let run = c.args.plan.now.run in
    let states = c.args.units.now.states in
    let course = c.args.course.now in
    let ready = c.requires.ready in
    let known = (making_in c.args.notes.now).known in
    let have = subst (λ (plan : Planned). HaveStates plan.run states) ready.tied c.count.ensures.states in
    let shape = subst (λ (plan : Planned). HaveInputs plan.run c.args.units.now.inputs) ready.tied c.count.ensures.inputs in
    let long = AllZip-long _ run.members states have in
    let fed = subst (AreFed run c.args.units.now.inputs (ports_in known.words)) c.in-On.is
    (fed_here run c.judged.ensures c.args.owners.now c.args.me ready.owned course.point course.number states known c.find_stage.result c.args.units.now.inputs
    ready.truth c.find_stage.ensures.stage have shape ready.words ready.noted.words) in
    let stepped = c.step_all.ensures.stepped (ports_in known.words) fed in
    moved_on run c.args.owners.now c.args.me ready.owned states c.step_all.new.units.states c.args.notes.now c.clear.new.self course kept
    c.next_point-course.result c.show-in-On.new.shown c.in-On.h long ready.noted
    (sym c.find_stage.ensures.stage ∙ c.in-On.is) (ap (λ (f : Fleet). f.states) stepped) c.clear.ensures.made c.next_point-course.ensures
    (c.show-in-On.ensures.shown known (sym c.deref-in-On.ensures.value))

pub returns-in-On-clause-words : goal.returns-in-On-clause-words
returns-in-On-clause-words c =
    let run = c.args.plan.now.run in
    let states = c.args.units.now.states in
    let course = c.args.course.now in
    let ready = c.requires.ready in
    let known = (making_in c.args.notes.now).known in
    let have = subst (λ (plan : Planned). HaveStates plan.run states) ready.tied c.count.ensures.states in
    let shape = subst (λ (plan : Planned). HaveInputs plan.run c.args.units.now.inputs) ready.tied c.count.ensures.inputs in
    let fed = subst (AreFed run c.args.units.now.inputs (ports_in known.words)) c.in-On.is
    (fed_here run c.judged.ensures c.args.owners.now c.args.me ready.owned course.point course.number states known c.find_stage.result c.args.units.now.inputs
    ready.truth c.find_stage.ensures.stage have shape ready.words ready.noted.words) in
    let stepped = c.step_all.ensures.stepped (ports_in known.words) fed in
    let words = ap (λ (making : Making). making.known.words) c.clear.ensures.made in
    subst (λ all. HaveTheirWords run (ports_in all) c.step_all.new.units.inputs) (sym words)
    (subst (λ all. HaveTheirWords run (ports_in (are_nothing known.words)) all) (sym (ap (λ (f : Fleet). f.inputs) stepped))
    (nothing_fed run (ports_in known.words) known.words c.args.units.now.inputs ready.words))
