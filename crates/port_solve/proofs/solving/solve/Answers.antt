use Rattle.std.proofs.Common.{◌≡◌, ◌∙◌, length}
use Rattle.port_solve.proofs.PortAnswers.{fault_within, fault_is_told, none_told, all_are_known, inputs_are}
use Rattle.port_solve.proofs.SoundRuns.{runs_are_sound}
use Rattle.port_solve.proofs.solving.solve.Goals as goal
use Rattle.unit_tree.specs.Compositions.{run_of}

pub work_out_all-requires-clause-sound : goal.work_out_all-requires-clause-sound
work_out_all-requires-clause-sound g c =
    let checked = c.args.checked.now in
    let run = run_of checked in
    let states = g.G.Gets.states c.args.gets.now in
    let sound = runs_are_sound checked c.system.ensures.ranged c.system.ensures.well_formed in
    rw (c.set_starts.ensures.system, c.requires.system) sound

pub fault_at-requires : goal.fault_at-requires
fault_at-requires g c =
    let checked = c.args.checked.now in
    let run = run_of checked in
    let states = g.G.Gets.states c.args.gets.now in
    let sound = runs_are_sound checked c.system.ensures.ranged c.system.ensures.well_formed in
    let system_is = c.set_starts.ensures.system ∙ c.requires.system in
    let e = c.in-Some.ensures in
    let right = rw (system_is, c.set_starts.ensures.states) at e.right in
    let first = rw (system_is, c.set_starts.ensures.states) at e.first in
    let known_count : length c.work_out_all.new.known ≡ length c.args.order.now.routes.outputs = c.work_out_all.auto.known ∙ c.requires.known in
    let words_count : length c.work_out_all.new.ports ≡ length c.args.order.now.routes.outputs = c.work_out_all.auto.ports ∙ c.requires.ports in
    rw c.routes.ensures.routes
    (fault_within run states sound c.requires.states c.args.order.now c.requires.order c.work_out_all.new.known c.work_out_all.new.ports known_count
    words_count right c.in-Some.faulted first)

pub returns-in-None-clause-fault : goal.returns-in-None-clause-fault
returns-in-None-clause-fault g c =
    let checked = c.args.checked.now in
    let run = run_of checked in
    let states = g.G.Gets.states c.args.gets.now in
    let sound = runs_are_sound checked c.system.ensures.ranged c.system.ensures.well_formed in
    let system_is = c.set_starts.ensures.system ∙ c.requires.system in
    let e = c.in-None.ensures in
    let right = rw (system_is, c.set_starts.ensures.states) at e.right in
    let first = rw (system_is, c.set_starts.ensures.states) at e.first in
    let known_count : length c.work_out_all.new.known ≡ length c.args.order.now.routes.outputs = c.work_out_all.auto.known ∙ c.requires.known in
    let words_count : length c.work_out_all.new.ports ≡ length c.args.order.now.routes.outputs = c.work_out_all.auto.ports ∙ c.requires.ports in
    none_told run states sound c.requires.states c.args.order.now c.requires.order c.work_out_all.new.known c.work_out_all.new.ports known_count words_count
    right first

pub returns-in-None-clause-known : goal.returns-in-None-clause-known
returns-in-None-clause-known g c =
    let checked = c.args.checked.now in
    let run = run_of checked in
    let states = g.G.Gets.states c.args.gets.now in
    let sound = runs_are_sound checked c.system.ensures.ranged c.system.ensures.well_formed in
    let system_is = c.set_starts.ensures.system ∙ c.requires.system in
    let e = c.in-None.ensures in
    let right = rw (system_is, c.set_starts.ensures.states) at e.right in
    let first = rw (system_is, c.set_starts.ensures.states) at e.first in
    let known_count : length c.work_out_all.new.known ≡ length c.args.order.now.routes.outputs = c.work_out_all.auto.known ∙ c.requires.known in
    let words_count : length c.work_out_all.new.ports ≡ length c.args.order.now.routes.outputs = c.work_out_all.auto.ports ∙ c.requires.ports in
    all_are_known run states sound c.requires.states c.args.order.now c.requires.order c.work_out_all.new.known c.work_out_all.new.ports known_count
    words_count right first

pub returns-in-None-clause-solved : goal.returns-in-None-clause-solved
returns-in-None-clause-solved g c =
    let checked = c.args.checked.now in
    let run = run_of checked in
    let states = g.G.Gets.states c.args.gets.now in
    let sound = runs_are_sound checked c.system.ensures.ranged c.system.ensures.well_formed in
    let system_is = c.set_starts.ensures.system ∙ c.requires.system in
    let e = c.in-None.ensures in
    let right = rw (system_is, c.set_starts.ensures.states) at e.right in
    let first = rw (system_is, c.set_starts.ensures.states) at e.first in
    let known_count : length c.work_out_all.new.known ≡ length c.args.order.now.routes.outputs = c.work_out_all.auto.known ∙ c.requires.known in
    let words_count : length c.work_out_all.new.ports ≡ length c.args.order.now.routes.outputs = c.work_out_all.auto.ports ∙ c.requires.ports in
    inputs_are run states sound c.requires.states c.args.order.now c.requires.order c.work_out_all.new.known c.work_out_all.new.ports known_count words_count
    right first
    (g.G.Gets.inputs c.work_out_all.new.gets) (rw system_is at e.words) (rw system_is at e.inputs)

pub returns-in-Some-clause-fault : goal.returns-in-Some-clause-fault
returns-in-Some-clause-fault g c =
    let checked = c.args.checked.now in
    let run = run_of checked in
    let states = g.G.Gets.states c.args.gets.now in
    let sound = runs_are_sound checked c.system.ensures.ranged c.system.ensures.well_formed in
    let system_is = c.set_starts.ensures.system ∙ c.requires.system in
    let e = c.in-Some.ensures in
    let right = rw (system_is, c.set_starts.ensures.states) at e.right in
    let first = rw (system_is, c.set_starts.ensures.states) at e.first in
    let known_count : length c.work_out_all.new.known ≡ length c.args.order.now.routes.outputs = c.work_out_all.auto.known ∙ c.requires.known in
    let words_count : length c.work_out_all.new.ports ≡ length c.args.order.now.routes.outputs = c.work_out_all.auto.ports ∙ c.requires.ports in
    fault_is_told run states sound c.requires.states c.args.order.now c.requires.order c.work_out_all.new.known c.work_out_all.new.ports known_count
    words_count right c.in-Some.faulted c.fault_at.result first
    (rw c.routes.ensures.routes at c.fault_at.ensures)
