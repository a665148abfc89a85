use Rattle.std.proofs.Common.{◌≡◌, ◌∙◌, ◌≤◌, ◌<◌, map, subst, sym}
use Rattle.std.specs.Prelude.{length, vec_capacity}
use Rattle.link_laws.specs.Making.{ports_in, rule_of}
use Rattle.link_core.specs.Noted.{AreNotes}
use Rattle.unit_tree.specs.Routes.{routes_of}
use Rattle.link_core.specs.NodeStates.{NodeState}
use Rattle.link_laws.specs.Nodes.{Progress, worked}
use Rattle.link_core.specs.Ready.{IsJudged, IsReady, progress_in}
use Rattle.link_laws.specs.declared.taken.Taken.{Taken}
use Rattle.link_core.proofs.NodeLaws.{did_is, keeps_new, ready}
use Rattle.link_core.proofs.WorkLaws.{bounds}
use Rattle.link_core.proofs.node.Node.work.Goals as goal
use Rattle.port_solve.specs.Solved.{HaveStates, HaveTheirWords}
use Rattle.trace_plan.specs.Plans.{Planned}

pub work_on-requires-clause-ready : goal.work_on-requires-clause-ready
work_on-requires-clause-ready c =
    let n = c.self.inside in
    let judged = subst (λ (p : Planned). IsJudged p.run) c.deref.ensures c.judged.ensures in
    let at_plan = ready n.plan.value judged n.owners n.me n.units n.notes n.course n.kept _ c.self.invariant.is_set c.self.invariant.keeps c.reserve.new.self
    c.reserve.ensures.made c.reserve.ensures.defined in
    subst (λ (p : Planned). IsReady p c.as_slice.result.now n.me n.course.point n.course.number n.units c.reserve.new.self) (sym c.deref-2.ensures)
    (subst (λ os. IsReady n.plan.value os n.me n.course.point n.course.number n.units c.reserve.new.self) (sym c.as_slice.ensures) at_plan)

pub work_on-requires-clause-time : goal.work_on-requires-clause-time
work_on-requires-clause-time c =
    let n = c.self.inside in
    let judged = subst (λ (p : Planned). IsJudged p.run) c.deref.ensures c.judged.ensures in
    let b = bounds n.plan.value.run judged n.owners n.me c.self.invariant.is_set.owned n.units.states n.notes n.course n.kept c.self.invariant.keeps in
    subst (λ (p : Planned). n.course.point.t ≤ p.run.stop) (sym c.deref-2.ensures) b.time

pub work_on-requires-clause-zeros : goal.work_on-requires-clause-zeros
work_on-requires-clause-zeros c =
    let n = c.self.inside in
    let judged = subst (λ (p : Planned). IsJudged p.run) c.deref.ensures c.judged.ensures in
    let b = bounds n.plan.value.run judged n.owners n.me c.self.invariant.is_set.owned n.units.states n.notes n.course n.kept c.self.invariant.keeps in
    subst (λ (p : Planned). n.course.point.n ≤ p.run.zero_budget) (sym c.deref-2.ensures) b.zeros

pub work_on-requires-clause-rows : goal.work_on-requires-clause-rows
work_on-requires-clause-rows c =
    let n = c.self.inside in
    let judged = subst (λ (p : Planned). IsJudged p.run) c.deref.ensures c.judged.ensures in
    let b = bounds n.plan.value.run judged n.owners n.me c.self.invariant.is_set.owned n.units.states n.notes n.course n.kept c.self.invariant.keeps in
    subst (λ (p : Planned). n.course.number < p.run.row_budget) (sym c.deref-2.ensures) b.rows

pub invariant_of-self-2 : goal.invariant_of-self-2
invariant_of-self-2 c =
    let n = c.self.inside in
    let set = c.self.invariant.is_set in
    let judged = subst (λ (p : Planned). IsJudged p.run) c.deref.ensures c.judged.ensures in
    let did : Progress × Taken = (progress_in n.owners n.me c.work_on.new.units.states c.work_on.new.notes c.work_on.new.course n.kept, c.work_on.result) in
    let worked_is : did ≡ worked (rule_of n.plan.value.run n.owners) n.me (progress_in n.owners n.me n.units.states c.reserve.new.self n.course n.kept) =
    subst (λ os. (progress_in os n.me c.work_on.new.units.states c.work_on.new.notes c.work_on.new.course n.kept, c.work_on.result) ≡ worked
    (rule_of n.plan.value.run os) n.me (progress_in os n.me n.units.states c.reserve.new.self n.course n.kept)) c.as_slice.ensures
    (subst (λ (p : Planned).
    (progress_in c.as_slice.result.now n.me c.work_on.new.units.states c.work_on.new.notes c.work_on.new.course n.kept, c.work_on.result) ≡ worked
    (rule_of p.run c.as_slice.result.now) n.me (progress_in c.as_slice.result.now n.me n.units.states c.reserve.new.self n.course n.kept)) c.deref-2.ensures
    (c.work_on.ensures.worked n.kept)) in
    let plan_is = c.deref-2.ensures in
    record {
      keeps = keeps_new n.plan.value judged n.owners n.me n.units n.notes n.course n.kept _ set c.self.invariant.keeps c.reserve.new.self
          c.reserve.ensures.made did worked_is;
      is_set = record {
        tied = c.work_on.ensures.tied ∙ plan_is;
        owned = set.owned;
        one_or_other = set.one_or_other;
        me_is = set.me_is;
        few = set.few;
        noted = subst (λ (p : Planned). AreNotes p.run c.work_on.new.notes) plan_is c.work_on.ensures.notes;
        words = subst (λ (p : Planned). HaveTheirWords p.run
            (ports_in c.work_on.new.notes.words.items) c.work_on.new.units.inputs) plan_is c.work_on.ensures.words;
        kept_long = set.kept_long;
        before_long = subst (λ (p : Planned). HaveStates p.run (map (λ one. one.items) c.work_on.new.before.items)) plan_is c.work_on.ensures.before;
        room = subst (λ (p : Planned). length (routes_of p.run).outputs ≤ vec_capacity c.work_on.new.course.shown.words) plan_is c.work_on.ensures.shown;
      };
      of_words = c.self.invariant.of_words;
    }

pub returns-clause-worked : goal.returns-clause-worked
returns-clause-worked c =
    let n = c.self.inside in
    let set = c.self.invariant.is_set in
    let judged = subst (λ (p : Planned). IsJudged p.run) c.deref.ensures c.judged.ensures in
    let did : Progress × Taken = (progress_in n.owners n.me c.work_on.new.units.states c.work_on.new.notes c.work_on.new.course n.kept, c.work_on.result) in
    let worked_is : did ≡ worked (rule_of n.plan.value.run n.owners) n.me (progress_in n.owners n.me n.units.states c.reserve.new.self n.course n.kept) =
    subst (λ os. (progress_in os n.me c.work_on.new.units.states c.work_on.new.notes c.work_on.new.course n.kept, c.work_on.result) ≡ worked
    (rule_of n.plan.value.run os) n.me (progress_in os n.me n.units.states c.reserve.new.self n.course n.kept)) c.as_slice.ensures
    (subst (λ (p : Planned).
    (progress_in c.as_slice.result.now n.me c.work_on.new.units.states c.work_on.new.notes c.work_on.new.course n.kept, c.work_on.result) ≡ worked
    (rule_of p.run c.as_slice.result.now) n.me (progress_in c.as_slice.result.now n.me n.units.states c.reserve.new.self n.course n.kept)) c.deref-2.ensures
    (c.work_on.ensures.worked n.kept)) in
    let at_inside = did_is n.plan.value judged n.owners n.me n.units n.notes n.course n.kept _ set c.self.invariant.keeps c.reserve.new.self
    c.reserve.ensures.made did worked_is in
    subst (λ (s : NodeState). did ≡ worked (rule_of s.plan.run s.owners) s.me s.progress) c.self.view_is at_inside
