use Rattle.std.proofs.Common.{◌≡◌, ◌∙◌, ◌≤◌, List, length, sym, ap, ap₂, subst, arith}
use Rattle.model_rules.specs.Limits.{instance_limit}
use Rattle.port_solve.specs.Solved.{HaveStates}
use Rattle.step_rule.specs.Steps.{AreAsked, ending_or, trial_result}
use Rattle.step_rule.specs.declared.steps.Step.{Step}
use Rattle.trace_core.proofs.SeatSteps.{steps_long}
use Rattle.trace_core.proofs.SettleLaws.{trial_is, trial_ready}
use Rattle.trace_core.specs.Runs.{AreCellsFull, RunState}
use Rattle.trace_core.specs.Seats.{seat_steps}
use Rattle.trace_core.specs.declared.phase.Phase.TheVariants.{Trial}
use Rattle.trace_plan.specs.Plans.{Planned}
use Rattle.unit_tree.specs.Successor.{agreed, trial_end}
use Rattle.trace_core.proofs.run.Run.agreed.Goals.{After-count, After-deref-3}
use Rattle.trace_core.proofs.run.Run.agreed.Goals as goal

have : (c : After-count) → HaveStates c.self.inside.plan.value.run c.self.inside.units.states
have c = subst (λ (plan : Planned). HaveStates plan.run c.self.inside.units.states) c.self.invariant.tied c.count.ensures.states

same : (c : After-count) → c.self.inside.phase ≡ Trial c.args.h
same c = subst (λ (s : RunState). s.phase ≡ Trial c.args.h) (sym c.self.view_is) c.requires.trial

steps_are : (c : After-deref-3) → seat_steps c.self.inside.plan.value.run.members c.self.inside.seats.items
    ≡ seat_steps c.deref-2.result.now.run.members c.deref-3.result.now
steps_are c = ap₂ seat_steps (ap (λ (plan : Planned). plan.run.members) (sym c.deref-2.ensures)) (sym c.deref-3.ensures.value)

pub read_trial-requires : goal.read_trial-requires
read_trial-requires c =
    let r = c.self.inside in
    let at = goal.at.read_trial-requires c in
    let ready = trial_ready r c.self.invariant (have at.After-count) c.args.h (same at.After-count) in
    let long = steps_long r.plan.value.run.members r.seats.items in
    let few : length r.plan.value.run.members ≤ instance_limit =
    subst (λ (plan : Planned). length plan.run.members ≤ instance_limit) c.deref.ensures c.instances.ensures.bounded.members in
    record {
      asked = subst (AreAsked r.point.t c.args.h) (steps_are at.After-deref-3) ready.asked;
      count = subst (λ (steps : List Step). length steps ≤ instance_limit) (steps_are at.After-deref-3) (omega (arith, long, few));
      end = ready.in_time;
    }

pub returns : goal.returns
returns c =
    let r = c.self.inside in
    let at = goal.at.returns c in
    let full = subst (λ (s : RunState). AreCellsFull s.cells) (sym c.self.view_is) c.requires.full in
    c.read_trial.ensures
    ∙ ap (trial_result r.point.t c.args.h) (sym (steps_are at.After-deref-3))
    ∙ trial_is r c.self.invariant (have at.After-count) c.args.h (same at.After-count) full
    ∙ ap (λ (s : RunState). ending_or (trial_end s.plan.run s.stand.at s.stand.ports) (agreed s.plan.run s.stand.at s.stand.ports)) c.self.view_is
