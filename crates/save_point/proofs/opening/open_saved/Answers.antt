use Rattle.std.proofs.Common.{◌∙◌, subst}
use Rattle.list_laws.proofs.Truths.{true_is_false}
use Rattle.trace_core.specs.OpenedAt.{IsOpenedAt}
use Rattle.save_point.proofs.CountLaws.{counts_misfit}
use Rattle.save_point.proofs.opening.open_saved.Goals as goal

pub returns-else-are_counts-clause-misfit : goal.returns-else-are_counts-clause-misfit
returns-else-are_counts-clause-misfit c = λ _.
    counts_misfit c.args.plan.value c.args.saved.now c.in_ok-run.run'
    (subst (λ states. IsOpenedAt c.args.plan.value c.args.saved.now.row c.args.saved.now.point states c.in_ok-run.run') c.as_slice-states.ensures
    c.in_ok-run.ensures.opened)
    (λ same. true_is_false c.are_counts.result (c.are_counts.ensures.1 (c.as_slice-3.ensures ∙ same)) c.if-are_counts.false)
