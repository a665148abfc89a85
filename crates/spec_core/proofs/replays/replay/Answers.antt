use Rattle.std.proofs.Common.{subst, sym}
use Rattle.std.specs.Prelude.{IfOk}
use Rattle.list_laws.proofs.Options.{on_err}
use Rattle.spec_core.specs.Replays.{IsReplayed}
use Rattle.spec_core.specs.Rounds.{IsBegun}
use Rattle.spec_core.proofs.CourseEnds.{replayed_or_fault, settled_or_fault}
use Rattle.spec_core.proofs.replays.replay.Goals as goal
use Rattle.trace_plan.specs.Plans.{Planned}
use Rattle.trace_rows.proofs.RunEnds.{front_none}

-- ---- Nothing was written

pub returns-in_err-clone-clause-front : goal.returns-in_err-clone-clause-front
returns-in_err-clone-clause-front g c = on_err c.from_residual.result (front_none c.args.plan.value.system (g.O.Sink.held c.args.out.now))

pub returns-in_err-course-clause-front : goal.returns-in_err-course-clause-front
returns-in_err-course-clause-front g c =
    on_err c.from_residual-in_err-course.result (front_none c.args.plan.value.system (g.O.Sink.held c.args.out.now))

-- ---- The counts

pub counts_or_fault-counts-requires : goal.counts_or_fault-counts-requires
counts_or_fault-counts-requires g c = record {
  settled =
      settled_or_fault c.args.plan.value c.args.seed c.args.workers c.in_ok-course.course c.put_trace-ended.new.course
      (subst (λ (p : Planned). IsBegun p c.args.seed c.args.workers c.in_ok-course.course) c.in_ok-clone.ensures.cases c.in_ok-course.ensures)
      c.put_trace-ended.result c.put_trace-ended.ensures.ended c.put_trace-ended.ensures.rounds;
}

pub returns-clause-counts : goal.returns-clause-counts
returns-clause-counts g c =
    subst (λ counts. IfOk counts (IsReplayed c.args.plan.value c.args.seed c.args.workers)) (sym c.counts_or_fault-counts.ensures)
    (replayed_or_fault c.args.plan.value c.args.seed c.args.workers c.in_ok-course.course c.put_trace-ended.new.course
    (subst (λ (p : Planned). IsBegun p c.args.seed c.args.workers c.in_ok-course.course) c.in_ok-clone.ensures.cases c.in_ok-course.ensures)
    c.put_trace-ended.result c.put_trace-ended.ensures.ended c.put_trace-ended.ensures.rounds)
