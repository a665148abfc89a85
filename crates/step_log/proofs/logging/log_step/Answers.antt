use Rattle.std.proofs.Common.{◌≡◌, ◌∙◌, false, [], ap, refl, sym, subst}
use Rattle.std.specs.Io.KnownBytes.{Appends}
use Rattle.std.proofs.KnownBytes.{Appends-nil}
use Rattle.cosim_io.specs.Pieces.{AppendsPrefix}
use Rattle.list_laws.proofs.Options.{on_err}
use Rattle.step_log.proofs.AgreedSteps.{ends_here}
use Rattle.step_log.specs.Lines.{line_if}
use Rattle.step_log.specs.Reports.{plain_step}
use Rattle.trace_core.specs.Runs.{is_ended}
use Rattle.trace_plan.specs.Plans.{Planned}
use Rattle.trace_rows.proofs.PhaseLaws.{ends_already}
use Rattle.trace_rows.proofs.RowLaws.{tells_none}
use Rattle.step_log.proofs.logging.log_step.Goals as goal

pub returns-in_default : goal.returns-in_default
returns-in_default g c =
    let r = c.args.run.now in
    let here = ends_here r c.requires.fresh (λ h is. c.in_default.not-Trial h (c.phase.ensures.phase ∙ is)) in
    let none : line_if c.args.plan.now.system (plain_step c.args.plan.now.run r.stand) ≡ [] =
    ap (λ (p : Planned). line_if p.system (plain_step p.run r.stand)) (sym c.requires.own) ∙ ap (line_if r.plan.system) here.step in
    record {
      went = ends_already r here.ending c.requires.fresh c.requires.stands here.phase;
      alone = refl;
      stands = c.requires.stands;
      whole = subst (Appends (g.O.Sink.held c.args.out.now) (g.O.Sink.held c.args.out.now)) (sym none) (Appends-nil (g.O.Sink.held c.args.out.now));
      front = tt;
      cause = tells_none (g.O.Sink.faults c.args.out.now) (g.O.Sink.faults c.args.out.now) false refl;
    }

pub returns-in_err-put_line-clause-front : goal.returns-in_err-put_line-clause-front
returns-in_err-put_line-clause-front g c =
    on_err c.from_residual.result
    (subst (AppendsPrefix (g.O.Sink.held c.args.out.now) (g.O.Sink.held c.put_line.new.out)) (ap (line_if c.args.plan.now.system) c.try_step-step.ensures.step)
    c.in_err-put_line.ensures.front)

pub returns-clause-went : goal.returns-clause-went
returns-clause-went g c =
    c.finish_step.ensures.went c.args.run.now c.requires.stands c.requires.fresh (ap is_ended (sym c.phase.ensures.phase ∙ c.in-Trial.is))
    c.try_step-step.ensures.there

pub returns-clause-alone : goal.returns-clause-alone
returns-clause-alone g c = c.finish_step.ensures.alone ∙ c.try_step-step.ensures.alone

pub returns-clause-whole : goal.returns-clause-whole
returns-clause-whole g c =
    subst (Appends (g.O.Sink.held c.args.out.now) (g.O.Sink.held c.put_line.new.out)) (ap (line_if c.args.plan.now.system) c.try_step-step.ensures.step)
    c.in_ok-put_line.ensures.whole
