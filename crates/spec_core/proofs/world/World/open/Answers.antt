use Rattle.std.proofs.Common.{◌∙◌, ap, refl, subst}
use Rattle.std.specs.List.{AllZip}
use Rattle.spec_core.proofs.OpenedLaws.{opened_is_world, planned}
use Rattle.spec_core.specs.Keeping.{IsUnitOf}
use Rattle.lane_outlook.specs.Outlooks.{cut_window}
use Rattle.spec_core.specs.Worlds.{AreLanesOpened}
use Rattle.trace_core.specs.Runs.{IsOpened}
use Rattle.trace_plan.specs.Plans.{Planned}
use Rattle.unit_tree.specs.Successor.{first_position}
use Rattle.spec_core.proofs.world.World.open.Goals as goal

pub returns-clause-opened : goal.returns-clause-opened
returns-clause-opened c = record {
  run = subst (λ (p : Planned). IsOpened p (first_position p.run) c.in_ok-run.run') c.in_ok-clone.ensures.cases c.in_ok-run.ensures.opened;
  is_window = c.cut_window-window.ensures ∙ ap (λ (p : Planned). cut_window p.run c.args.window) c.deref-3.ensures;
  is_policy = refl;
  lanes = subst (λ (p : Planned). AreLanesOpened p.run c.in_ok-lanes.lanes.items) c.deref.ensures c.in_ok-lanes.ensures.opened;
  hands = c.in_ok-hands.ensures;
}

pub returns-clause-kept : goal.returns-clause-kept
returns-clause-kept c = opened_is_world c.args.plan.value c.args.workers c.args.window c.args.policy _ (returns-clause-opened c)
    c.in_ok-run.ensures.stands c.in_ok-lanes.ensures.kept c.requires.window

pub invariant_of-result : goal.invariant_of-result
invariant_of-result c = record {
  is_world = returns-clause-kept c;
  tied = planned c.args.plan.value c.args.workers c.args.window c.args.policy _ (returns-clause-opened c);
  units = subst (λ lanes. AllZip IsUnitOf lanes c.in_ok-units.units.items) c.deref-2.ensures.value c.in_ok-units.ensures;
}
