use Rattle.std.proofs.Common.{◌∙◌, ap, arith, length, subst, sym}
use Rattle.list_laws.proofs.Options.{on_err}
use Rattle.spec_core.proofs.CourseEnds.{front_put, has_room, is_done, next_come, next_most, next_number, next_rounds, puts_rows, row_put, tells_unmade}
use Rattle.spec_core.proofs.CourseRounds.{no_round}
use Rattle.spec_core.proofs.replays.put_rows.Goals as goal
use Rattle.trace_core.specs.Runs.{RunState, Stands}
use Rattle.trace_plan.specs.Plans.{Planned}
use Rattle.trace_rows.specs.declared.fault.CrewFault.TheVariants.{NoMemory}
use Rattle.trace_rows.proofs.RowLaws.{err_is, tells_given_up, tells_none}
use Rattle.trace_rows.proofs.RunKept.{come_first, given_by, number_within}

-- ---- The row at which the run was opened

pub rows-init : goal.rows-init
rows-init g c =
    let none = c.requires.none in
    row_put c.args.plan.now c.args.course.now (g.O.Sink.held c.args.out.now) (g.O.Sink.held c.args.out.now) (g.O.Sink.faults c.args.out.now)
    (g.O.Sink.faults c.args.out.now)
    c.new-tally.result c.args.workers c.args.course.now c.run.result.now (g.O.Sink.held c.put_row.new.out) (g.O.Sink.faults c.put_row.new.out)
    c.put_row.new.tally
    (come_first c.args.plan.now c.args.course.now.world.run.opened c.args.course.now.world.run (g.O.Sink.held c.args.out.now)
    (g.O.Sink.faults c.args.out.now) c.new-tally.result
    c.requires.opened c.facts.ensures.stands c.new-tally.ensures.rows c.new-tally.ensures.sum)
    c.facts.ensures (no_round c.args.workers c.args.course.now) c.requires.few (omega (arith, none)) c.run.ensures c.in_ok-put_row.ensures

pub returns-in_err-put_row-clause-front : goal.returns-in_err-put_row-clause-front
returns-in_err-put_row-clause-front g c =
    front_put c.args.plan.now c.args.course.now (g.O.Sink.held c.args.out.now) (g.O.Sink.held c.args.out.now) (g.O.Sink.faults c.args.out.now)
    (g.O.Sink.faults c.args.out.now)
    c.new-tally.result c.args.course.now c.run.result.now (g.O.Sink.held c.put_row.new.out) c.from_residual.result
    (come_first c.args.plan.now c.args.course.now.world.run.opened c.args.course.now.world.run (g.O.Sink.held c.args.out.now)
    (g.O.Sink.faults c.args.out.now) c.new-tally.result
    c.requires.opened c.facts.ensures.stands c.new-tally.ensures.rows c.new-tally.ensures.sum)
    c.run.ensures c.in_err-put_row.ensures.front

-- ---- From row to row

pub advance-requires-clause-instances : goal.advance-requires-clause-instances
advance-requires-clause-instances g c =
    c.instances-instances.ensures.count
    ∙ ap (λ (p : Planned). length p.run.members) (sym c.rows.invariant.kept.at.planned)
    ∙ sym c.rows.invariant.world.each_instance

pub advance-requires-clause-fresh : goal.advance-requires-clause-fresh
advance-requires-clause-fresh g c =
    c.rows.invariant.kept.at.fresh

pub advance-requires-clause-few : goal.advance-requires-clause-few
advance-requires-clause-few g c =
    c.rows.invariant.few

pub advance-requires-clause-room : goal.advance-requires-clause-room
advance-requires-clause-room g c =
    has_room c.args.plan.now c.args.course.now (g.O.Sink.held c.args.out.now) (g.O.Sink.held c.rows.out) (g.O.Sink.faults c.args.out.now)
    (g.O.Sink.faults c.rows.out) c.rows.tally c.args.workers c.rows.course
    (given_by c.args.plan.now c.args.course.now.world.run.opened c.args.course.now.world.run c.requires.opened c.facts.ensures.stands) c.rows.invariant

pub returns-in_err-advance-clause-front : goal.returns-in_err-advance-clause-front
returns-in_err-advance-clause-front g c =
    on_err c.from_residual-in_err-advance.result c.rows.invariant.front

pub returns-in_err-advance-clause-cause : goal.returns-in_err-advance-clause-cause
returns-in_err-advance-clause-cause g c =
    tells_unmade (g.O.Sink.faults c.args.out.now) (g.O.Sink.faults c.rows.out) c.from_residual-in_err-advance.result c.rows.invariant.kept.same
    (err_is c.from_residual-in_err-advance.result NoMemory c.from_residual-in_err-advance.ensures.1)

pub put_row-requires-in-rows-clause-own : goal.put_row-requires-in-rows-clause-own
put_row-requires-in-rows-clause-own g c =
    ap (λ (r : RunState). r.plan) c.run-in-rows.ensures
    ∙ (next_come c.args.plan.now c.args.course.now (g.O.Sink.held c.args.out.now) (g.O.Sink.held c.rows.out) (g.O.Sink.faults c.args.out.now)
    (g.O.Sink.faults c.rows.out) c.rows.tally
    c.args.workers c.rows.course c.advance.new.course c.in_ok-advance.field-0
    (given_by c.args.plan.now c.args.course.now.world.run.opened c.args.course.now.world.run c.requires.opened c.facts.ensures.stands)
    c.rows.invariant c.in_ok-advance.ensures c.facts-in-rows.ensures.stands c.if-branch.true).at.planned

pub put_row-requires-in-rows-clause-rows : goal.put_row-requires-in-rows-clause-rows
put_row-requires-in-rows-clause-rows g c =
    let come = (next_come c.args.plan.now c.args.course.now (g.O.Sink.held c.args.out.now) (g.O.Sink.held c.rows.out) (g.O.Sink.faults c.args.out.now)
    (g.O.Sink.faults c.rows.out) c.rows.tally
    c.args.workers c.rows.course c.advance.new.course c.in_ok-advance.field-0
    (given_by c.args.plan.now c.args.course.now.world.run.opened c.args.course.now.world.run c.requires.opened c.facts.ensures.stands)
    c.rows.invariant c.in_ok-advance.ensures c.facts-in-rows.ensures.stands c.if-branch.true) in
    let few = come.few in
    let within = number_within c.args.plan.now c.args.course.now.world.run.opened c.advance.new.course.world.run
    (given_by c.args.plan.now c.args.course.now.world.run.opened c.args.course.now.world.run c.requires.opened c.facts.ensures.stands)
    come.at.planned c.facts-in-rows.ensures.stands in
    omega (arith, few, within)

pub rows-smaller : goal.rows-smaller
rows-smaller g c =
    let within = number_within c.args.plan.now c.args.course.now.world.run.opened c.rows.course.world.run
    (given_by c.args.plan.now c.args.course.now.world.run.opened c.args.course.now.world.run c.requires.opened c.facts.ensures.stands)
    c.rows.invariant.kept.at.planned c.rows.invariant.world.stands in
    let next = next_number c.args.plan.now c.args.course.now (g.O.Sink.held c.args.out.now) (g.O.Sink.held c.rows.out) (g.O.Sink.faults c.args.out.now)
    (g.O.Sink.faults c.rows.out) c.rows.tally
    c.args.workers c.rows.course c.advance.new.course c.in_ok-advance.field-0
    (given_by c.args.plan.now c.args.course.now.world.run.opened c.args.course.now.world.run c.requires.opened c.facts.ensures.stands)
    c.rows.invariant c.in_ok-advance.ensures c.facts-in-rows.ensures.stands c.if-branch.true in
    omega (arith, within, next)

pub rows-preserved : goal.rows-preserved
rows-preserved g c =
    row_put c.args.plan.now c.args.course.now (g.O.Sink.held c.args.out.now) (g.O.Sink.held c.rows.out) (g.O.Sink.faults c.args.out.now)
    (g.O.Sink.faults c.rows.out) c.rows.tally c.args.workers c.advance.new.course c.run-in-rows.result.now
    (g.O.Sink.held c.put_row-in-rows.new.out) (g.O.Sink.faults c.put_row-in-rows.new.out) c.put_row-in-rows.new.tally
    (next_come c.args.plan.now c.args.course.now (g.O.Sink.held c.args.out.now) (g.O.Sink.held c.rows.out) (g.O.Sink.faults c.args.out.now)
    (g.O.Sink.faults c.rows.out) c.rows.tally
    c.args.workers c.rows.course c.advance.new.course c.in_ok-advance.field-0
    (given_by c.args.plan.now c.args.course.now.world.run.opened c.args.course.now.world.run c.requires.opened c.facts.ensures.stands)
    c.rows.invariant c.in_ok-advance.ensures c.facts-in-rows.ensures.stands c.if-branch.true)
    c.facts-in-rows.ensures
    (next_rounds c.args.plan.now c.args.course.now (g.O.Sink.held c.args.out.now) (g.O.Sink.held c.rows.out) (g.O.Sink.faults c.args.out.now)
    (g.O.Sink.faults c.rows.out) c.rows.tally
    c.args.workers c.rows.course c.advance.new.course c.in_ok-advance.field-0
    (given_by c.args.plan.now c.args.course.now.world.run.opened c.args.course.now.world.run c.requires.opened c.facts.ensures.stands)
    c.rows.invariant c.in_ok-advance.ensures c.facts-in-rows.ensures.stands)
    c.in_ok-advance.ensures.few
    (next_most c.args.plan.now c.args.course.now (g.O.Sink.held c.args.out.now) (g.O.Sink.held c.rows.out) (g.O.Sink.faults c.args.out.now)
    (g.O.Sink.faults c.rows.out) c.rows.tally
    c.args.workers c.rows.course c.advance.new.course c.in_ok-advance.field-0
    (given_by c.args.plan.now c.args.course.now.world.run.opened c.args.course.now.world.run c.requires.opened c.facts.ensures.stands)
    c.rows.invariant c.in_ok-advance.ensures c.facts-in-rows.ensures.stands c.if-branch.true)
    c.run-in-rows.ensures c.in_ok-put_row-2.ensures

pub returns-in_err-put_row-2-clause-front : goal.returns-in_err-put_row-2-clause-front
returns-in_err-put_row-2-clause-front g c =
    front_put c.args.plan.now c.args.course.now (g.O.Sink.held c.args.out.now) (g.O.Sink.held c.rows.out) (g.O.Sink.faults c.args.out.now)
    (g.O.Sink.faults c.rows.out) c.rows.tally
    c.advance.new.course c.run-in-rows.result.now (g.O.Sink.held c.put_row-in-rows.new.out) c.from_residual-in_err-put_row-2.result
    (next_come c.args.plan.now c.args.course.now (g.O.Sink.held c.args.out.now) (g.O.Sink.held c.rows.out) (g.O.Sink.faults c.args.out.now)
    (g.O.Sink.faults c.rows.out) c.rows.tally c.args.workers c.rows.course c.advance.new.course c.in_ok-advance.field-0
    (given_by c.args.plan.now c.args.course.now.world.run.opened c.args.course.now.world.run c.requires.opened c.facts.ensures.stands)
    c.rows.invariant c.in_ok-advance.ensures c.facts-in-rows.ensures.stands c.if-branch.true) c.run-in-rows.ensures c.in_err-put_row-2.ensures.front

pub returns-in_err-put_row-2-clause-cause : goal.returns-in_err-put_row-2-clause-cause
returns-in_err-put_row-2-clause-cause g c =
    tells_given_up (g.O.Sink.faults c.args.out.now) (g.O.Sink.faults c.rows.out) (g.O.Sink.faults c.put_row-in-rows.new.out) c.in_err-put_row-2.field-0.0
    c.from_residual-in_err-put_row-2.result c.rows.invariant.kept.same c.in_err-put_row-2.ensures.cause
    (err_is c.from_residual-in_err-put_row-2.result c.in_err-put_row-2.field-0.0 c.from_residual-in_err-put_row-2.ensures.1)

-- ---- The end

pub returns-clause-rows : goal.returns-clause-rows
returns-clause-rows g c =
    puts_rows c.args.plan.now c.args.course.now.world.run.opened c.advance.new.course.world.run (g.O.Sink.held c.args.out.now) (g.O.Sink.held c.rows.out)
    c.rows.tally
    c.in-Ended.outcome (given_by c.args.plan.now c.args.course.now.world.run.opened c.args.course.now.world.run c.requires.opened c.facts.ensures.stands)
    (is_done c.args.plan.now c.args.course.now (g.O.Sink.held c.args.out.now) (g.O.Sink.held c.rows.out) (g.O.Sink.faults c.args.out.now)
    (g.O.Sink.faults c.rows.out) c.rows.tally
    c.args.workers c.rows.course c.advance.new.course c.in_ok-advance.field-0
    (given_by c.args.plan.now c.args.course.now.world.run.opened c.args.course.now.world.run c.requires.opened c.facts.ensures.stands)
    c.rows.invariant c.in_ok-advance.ensures (subst Stands c.run-2.ensures c.phase.ensures.stands) c.if-branch.false)
    (sym (ap (λ (r : RunState). r.phase) c.run-2.ensures) ∙ sym c.phase.ensures.phase ∙ c.in-Ended.is)

pub returns-clause-rounds : goal.returns-clause-rounds
returns-clause-rounds g c =
    next_rounds c.args.plan.now c.args.course.now (g.O.Sink.held c.args.out.now) (g.O.Sink.held c.rows.out) (g.O.Sink.faults c.args.out.now)
    (g.O.Sink.faults c.rows.out) c.rows.tally
    c.args.workers c.rows.course c.advance.new.course c.in_ok-advance.field-0
    (given_by c.args.plan.now c.args.course.now.world.run.opened c.args.course.now.world.run c.requires.opened c.facts.ensures.stands)
    c.rows.invariant c.in_ok-advance.ensures (subst Stands c.run-2.ensures c.phase.ensures.stands)

pub returns-clause-cause : goal.returns-clause-cause
returns-clause-cause g c =
    tells_none (g.O.Sink.faults c.args.out.now) (g.O.Sink.faults c.rows.out) c.in-Ended.outcome c.rows.invariant.kept.same
