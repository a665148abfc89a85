use Rattle.std.proofs.Common.{◌∙◌, ap}
use Rattle.port_solve.proofs.PortAnswers.{starts_fit, start_words}
use Rattle.port_solve.proofs.SetWords.{shape_after}
use Rattle.port_solve.proofs.SoundRuns.{runs_are_sound}
use Rattle.port_solve.proofs.one_by_one.set_starts.Goals as goal
use Rattle.unit_tree.specs.Compositions.{run_of}
use Rattle.unit_tree.specs.Routes.{routes_of}

pub set_words-requires : goal.set_words-requires
set_words-requires g c =
    let checked = c.args.checked.now in
    let sound = runs_are_sound checked c.system.ensures.ranged c.system.ensures.well_formed in
    let starts_are = c.as_slice.ensures ∙ ap (λ r. r.starts) (c.routes.ensures.routes ∙ c.requires.order.routes) in
    rw (c.requires.system, starts_are) (starts_fit (run_of checked) sound)

pub returns-clause-words : goal.returns-clause-words
returns-clause-words g c =
    let checked = c.args.checked.now in
    let sound = runs_are_sound checked c.system.ensures.ranged c.system.ensures.well_formed in
    let starts_are = c.as_slice.ensures ∙ ap (λ r. r.starts) (c.routes.ensures.routes ∙ c.requires.order.routes) in
    let inputs = rw starts_are at c.set_words.ensures.inputs in
    rw inputs (start_words (run_of checked) sound (g.G.Gets.inputs c.args.gets.now) c.requires.inputs)

pub returns-clause-inputs : goal.returns-clause-inputs
returns-clause-inputs g c =
    let run = run_of c.args.checked.now in
    let starts_are = c.as_slice.ensures ∙ ap (λ r. r.starts) (c.routes.ensures.routes ∙ c.requires.order.routes) in
    let inputs = rw starts_are at c.set_words.ensures.inputs in
    rw inputs (shape_after run (routes_of run).starts (g.G.Gets.inputs c.args.gets.now) c.requires.inputs)
