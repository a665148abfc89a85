use Rattle.std.proofs.Common.{◌≡◌, ◌∙◌, ◌≤◌, ap, sym, subst, arith, rules}
use Rattle.trace_core.specs.Arriving.{position_with}
use Rattle.trace_plan.specs.Plans.{Planned}
use Rattle.unit_tree.specs.Compositions.{AreMembers, run_of}
use Rattle.unit_tree.specs.Plain.{plain_form}
use Rattle.unit_tree.specs.Successor.{first_position}
use Rattle.unit_tree.specs.Trace.{HasWords}
use Rattle.run_laws.proofs.PositionLaws.{positions_keep, system_has_members}
use Rattle.trace_core.proofs.run.Run.open.Goals as goal

pub open_from-requires-clause-composed : goal.open_from-requires-clause-composed
open_from-requires-clause-composed c = subst (λ (plan : Planned). plan.run ≡ run_of plan.system) c.deref.ensures c.checked.ensures.run

pub open_from-requires-clause-members : goal.open_from-requires-clause-members
open_from-requires-clause-members c =
    subst (λ (plan : Planned). AreMembers plan.run) c.deref.ensures
    (subst AreMembers (sym c.checked.ensures.run) (system_has_members (plain_form c.deref.result.now.system)))

pub open_from-requires-clause-words : goal.open_from-requires-clause-words
open_from-requires-clause-words c =
    let members : AreMembers c.args.plan.value.run =
    subst (λ (plan : Planned). AreMembers plan.run) c.deref.ensures
    (subst AreMembers (sym c.checked.ensures.run) (system_has_members (plain_form c.deref.result.now.system))) in
    let shared : c.in_ok-shared.shared.value ≡ c.args.plan.value = search rules in
    let states : c.in_ok-units.units.states ≡ (first_position c.args.plan.value.run).states =
    c.in_ok-units.ensures.states ∙ ap (λ (plan : Planned). (first_position plan.run).states) shared in
    subst (λ all. HasWords c.args.plan.value.run (position_with (record { t = 0; n = 0 }) all 0)) (sym states)
    (positions_keep c.args.plan.value.run members).first

pub open_from-requires-clause-in_rows : goal.open_from-requires-clause-in_rows
open_from-requires-clause-in_rows c =
    let some : 1 ≤ c.args.plan.value.run.row_budget =
    subst (λ (plan : Planned). 1 ≤ plan.run.row_budget) c.deref-2.ensures c.instances.ensures.bounded.some_row in
    omega (arith, some)
