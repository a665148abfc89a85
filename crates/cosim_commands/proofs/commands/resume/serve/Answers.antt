use Rattle.std.proofs.Common.{Ok, Err, subst}
use Rattle.trace_plan.specs.Plans.{Planned}
use Rattle.cosim_call.specs.Calls.{stream}
use Rattle.cosim_call.specs.Coming.{Serves}
use Rattle.command_line.specs.declared.commands.Command.TheVariants.{Resume}
use Rattle.cosim_answers.specs.Answer.{Answers}
use Rattle.cosim_answers.specs.Serving.{GoesOn, TellsResumed}
use Rattle.cosim_answers.proofs.MakingLaws.{handed_on}
use Rattle.cosim_answers.proofs.ResumeLaws.{fits_nowhere, refuses_behind, rest_given_up, rest_answered, saves_no_position}
use Rattle.cosim_commands.proofs.commands.resume.serve.Goals as goal

pub returns-in_err-saved : goal.returns-in_err-saved
returns-in_err-saved g c =
    let out = stream (g.O.Sink.held c.args.out.now) (g.O.Sink.faults c.args.out.now) in
    handed_on (Serves (Answers Resume c.args.text.now) out out) c.from_residual.result c.in_err-saved.field-0.0 c.from_residual.ensures.1
    (saves_no_position c.args.text.now out c.in_err-saved.field-0.0 c.requires.within c.in_err-saved.ensures)

pub returns-in_err-plan : goal.returns-in_err-plan
returns-in_err-plan g c =
    let out = stream (g.O.Sink.held c.args.out.now) (g.O.Sink.faults c.args.out.now) in
    handed_on (Serves (Answers Resume c.args.text.now) out out) c.from_residual-in_err-plan.result c.in_err-plan.field-0.0
    c.from_residual-in_err-plan.ensures.1
    (refuses_behind c.args.text.now c.in_ok-saved.saved out c.in_err-plan.field-0.0 c.requires.within c.in_ok-saved.ensures c.in_err-plan.ensures.refused)

pub returns-in_err-run : goal.returns-in_err-run
returns-in_err-run g c =
    let out = stream (g.O.Sink.held c.args.out.now) (g.O.Sink.faults c.args.out.now) in
    handed_on (Serves (Answers Resume c.args.text.now) out out) c.from_residual-in_err-run.result c.in_err-run.field-0.0
    c.from_residual-in_err-run.ensures.1
    (fits_nowhere c.args.text.now c.in_ok-saved.saved c.in_ok-plan.plan.value c.requires.within c.in_ok-saved.ensures c.in_ok-plan.ensures.planned
    c.in_ok-plan.ensures.whole out c.in_err-run.field-0.0 c.in_err-run.ensures)

pub returns-in_err-report : goal.returns-in_err-report
returns-in_err-report g c =
    let out = stream (g.O.Sink.held c.args.out.now) (g.O.Sink.faults c.args.out.now) in
    let out' = stream (g.O.Sink.held c.go_on.new.out) (g.O.Sink.faults c.go_on.new.out) in
    handed_on (Serves (Answers Resume c.args.text.now) out out') c.from_residual-in_err-report.result c.in_err-report.field-0.0
    c.from_residual-in_err-report.ensures.1
    (rest_given_up c.args.text.now c.in_ok-saved.saved c.in_ok-plan.plan.value c.requires.within c.in_ok-saved.ensures c.in_ok-plan.ensures.planned
    c.in_ok-plan.ensures.whole c.in_ok-run.run' c.in_ok-run.ensures.0 out out' c.in_err-report.field-0.0
    (subst (λ p. GoesOn p c.in_ok-run.run'.opened out out' (Err c.in_err-report.field-0.0)) c.deref.ensures c.in_err-report.ensures))

pub returns : goal.returns
returns g c =
    let out = stream (g.O.Sink.held c.args.out.now) (g.O.Sink.faults c.args.out.now) in
    let out' = stream (g.O.Sink.held c.go_on.new.out) (g.O.Sink.faults c.go_on.new.out) in
    rest_answered c.args.text.now c.in_ok-saved.saved c.in_ok-plan.plan.value c.requires.within c.in_ok-saved.ensures c.in_ok-plan.ensures.planned
    c.in_ok-plan.ensures.whole c.in_ok-run.run' c.in_ok-run.ensures.0 out out' c.in_ok-report.report c.resumed.result
    (subst (λ p. GoesOn p c.in_ok-run.run'.opened out out' (Ok c.in_ok-report.report)) c.deref.ensures c.in_ok-report.ensures)
    (subst (λ (p : Planned). TellsResumed p.system c.in_ok-report.report c.resumed.result) c.deref-2.ensures c.resumed.ensures)
