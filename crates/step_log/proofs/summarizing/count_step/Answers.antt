use Rattle.std.proofs.Common.{◌≡◌, ◌∙◌, ◌++◌, [], None, append-nil, ap, refl, sym, subst}
use Rattle.std.specs.List.{cons_option}
use Rattle.step_counts.specs.Counts.{IsCountOf}
use Rattle.step_log.proofs.AgreedSteps.{ends_here}
use Rattle.step_log.specs.Reports.{plain_step}
use Rattle.trace_plan.specs.Plans.{Planned}
use Rattle.trace_rows.proofs.PhaseLaws.{ends_already}
use Rattle.step_log.proofs.summarizing.count_step.Goals as goal

pub returns-in_default : goal.returns-in_default
returns-in_default c =
    let r = c.args.run.now in
    let here = ends_here r c.requires.fresh (λ h is. c.in_default.not-Trial h (c.phase.ensures.phase ∙ is)) in
    let none : plain_step c.args.plan.now.run r.stand ≡ None = ap (λ (p : Planned). plain_step p.run r.stand) (sym c.requires.own) ∙ here.step in
    record {
      went = ends_already r here.ending c.requires.fresh c.requires.stands here.phase;
      alone = refl;
      stands = c.requires.stands;
      counted = λ instances steps is.
          subst (λ all. IsCountOf instances all c.args.counts.now)
          (sym (append-nil steps) ∙ ap (λ step. steps ++ cons_option step []) (sym none)) is;
    }
