use Rattle.std.proofs.Common.{ap, ◌∙◌}
use Rattle.trace_plan.specs.Plans.{Planned}
use Rattle.cosim_call.specs.Coming.{Makes}
use Rattle.cosim_answers.specs.Answer.{Answers}
use Rattle.cosim_answers.specs.Figures.{figures_text}
use Rattle.command_line.specs.declared.commands.Command.TheVariants.{Bench}
use Rattle.cosim_answers.proofs.BenchLaws.{bench_given_up, bench_made}
use Rattle.cosim_answers.proofs.MakingLaws.{handed_on}
use Rattle.cosim_commands.proofs.commands.bench.make_crewed.Goals as goal

pub returns-in_err-report : goal.returns-in_err-report
returns-in_err-report g c = λ text.
    handed_on (Makes (Answers (Bench c.args.asked.now) text)) c.from_residual-in_err-report.result c.in_err-report.field-0.0
    c.from_residual-in_err-report.ensures.1
    (bench_given_up c.args.asked.now c.in_ok-plan.plan.value.system c.in_err-report.field-0.0 text c.in_err-report.ensures)

pub returns : goal.returns
returns g c = λ text.
    bench_made c.args.asked.now c.in_ok-plan.plan.value.system c.in_ok-report.report c.in_ok-figures.field-0 text
    (ap (λ (p : Planned). p.system) c.in_ok-plan.ensures.ok ∙ c.in_ok-plan_of.ensures)
    c.in_ok-report.ensures.0
    (c.in_ok-figures.ensures
    ∙ ap (λ count. figures_text count c.in_ok-report.report.rows c.in_ok-report.report.last c.in_ok-report.report.sum) c.instances.ensures.value)
