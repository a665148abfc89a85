use Rattle.std.proofs.Common.{◌≡◌, ◌∙◌, ◌≤◌, ◌<◌, ℤ, Vec, Global, map, refl, ap, ap₂, subst, sym}
use Rattle.std.specs.Prelude.{length, vec_capacity}
use Rattle.link_laws.specs.Keeping.{IsHonest, KeepsTo}
use Rattle.link_laws.specs.Making.{ports_in, rule_of}
use Rattle.link_core.specs.NodeStates.{NodeState}
use Rattle.link_laws.specs.Nodes.{Progress, knowing, taken, worked}
use Rattle.link_core.specs.Inner.{IsSet}
use Rattle.link_core.specs.Noted.{AreNotes, IsItemOf, knowing_fact, making_in}
use Rattle.link_core.specs.Ready.{IsJudged, IsReady, is_dropped, progress_in}
use Rattle.link_laws.specs.declared.taken.Taken.{Taken}
use Rattle.link_core.proofs.NodeLaws.{keeps_new, ready}
use Rattle.link_core.proofs.TakeLaws.{is_item, keeps_learnt, learnt_is, set_learnt, taken_is}
use Rattle.link_core.proofs.WorkLaws.{Bounds, bounds}
use Rattle.link_core.proofs.node.Node.take.Goals.{After-learn_fact, After-work_on}
use Rattle.link_core.proofs.node.Node.take.Goals as goal
use Rattle.port_solve.specs.Solved.{HaveStates, HaveTheirWords}
use Rattle.trace_plan.specs.Plans.{Planned}
use Rattle.unit_tree.specs.Routes.{routes_of}

-- ---- After the fact was learnt

is_judged : (c : After-learn_fact) → IsJudged c.self.inside.plan.value.run
is_judged c = subst (λ (p : Planned). IsJudged p.run) c.deref-2.ensures c.judged.ensures

dropped_is : (c : After-learn_fact) → c.drops.result ≡ is_dropped c.self.inside.plan.value.run c.self.inside.owners c.self.inside.me c.self.inside.course
    (making_in c.self.inside.notes).known c.args.fact.now
dropped_is c =
    let n = c.self.inside in
    c.drops.ensures ∙ ap₂ (λ (p : Planned) os. is_dropped p.run os n.me n.course (making_in n.notes).known c.args.fact.now) c.deref.ensures
    c.as_slice-owners.ensures

-- What holds of the node then.
record Learnt (c : After-learn_fact) : Type 0 where
  set : IsSet c.self.inside.plan.value c.self.inside.owners c.self.inside.me c.learn_fact.new.units c.learn_fact.new.notes c.self.inside.course
      c.self.inside.kept (map (λ (one : Vec ℤ Global). one.items) c.self.inside.before.items)
  keeps : KeepsTo c.self.inside.plan.value.run (rule_of c.self.inside.plan.value.run c.self.inside.owners) c.self.inside.me
      (progress_in c.self.inside.owners c.self.inside.me c.learn_fact.new.units.states c.learn_fact.new.notes c.self.inside.course c.self.inside.kept)
  known : progress_in c.self.inside.owners c.self.inside.me c.learn_fact.new.units.states c.learn_fact.new.notes c.self.inside.course c.self.inside.kept
      ≡ knowing (progress_in c.self.inside.owners c.self.inside.me c.self.inside.units.states c.self.inside.notes c.self.inside.course c.self.inside.kept)
      c.args.fact.now

learnt : (c : After-learn_fact) → Learnt c
learnt c =
    let n = c.self.inside in
    let plan = n.plan.value in
    let fact = c.args.fact.now in
    let judged = is_judged c in
    let set = c.self.invariant.is_set in
    let keeps = c.self.invariant.keeps in
    let before = map (λ (one : Vec ℤ Global). one.items) n.before.items in
    let honest = subst (λ (s : NodeState). IsHonest s.plan.run fact) (sym c.self.view_is) c.requires.honest in
    let going = sym (dropped_is c) ∙ c.if-drops.false in
    let making : making_in c.learn_fact.new.notes ≡ knowing_fact fact (making_in n.notes) = c.learn_fact.ensures.learnt
    ∙ ap (knowing_fact fact) c.reserve.ensures.made in
    let states = c.learn_fact.ensures.states in
    let plan_is = c.deref-3.ensures in
    let noted = subst (λ (p : Planned). AreNotes p.run c.learn_fact.new.notes) plan_is c.learn_fact.ensures.notes in
    let words = subst (λ (p : Planned). HaveTheirWords p.run
    (ports_in c.learn_fact.new.notes.words.items) c.learn_fact.new.units.inputs) plan_is c.learn_fact.ensures.words in
    record {
      set = set_learnt plan judged n.owners n.me n.units n.notes n.course n.kept before set keeps fact honest going c.learn_fact.new.units
          c.learn_fact.new.notes making states noted words c.learn_fact.ensures.plan;
      keeps = keeps_learnt plan judged n.owners n.me n.units n.notes n.course n.kept before set keeps fact honest going c.learn_fact.new.units
          c.learn_fact.new.notes making states;
      known = learnt_is plan judged n.owners n.me n.units n.notes n.course n.kept before set keeps fact honest going c.learn_fact.new.units
          c.learn_fact.new.notes making states;
    }

at_bounds : (c : After-learn_fact) → Bounds c.self.inside.plan.value.run (is_judged c) c.self.inside.owners c.self.inside.me (learnt c).set.owned
    c.learn_fact.new.units.states c.learn_fact.new.notes c.self.inside.course c.self.inside.kept (learnt c).keeps
at_bounds c =
    let n = c.self.inside in
    let l = learnt c in
    bounds n.plan.value.run (is_judged c) n.owners n.me l.set.owned c.learn_fact.new.units.states c.learn_fact.new.notes n.course n.kept l.keeps

-- ---- After the work

worked_is : (c : After-work_on) → (
  progress_in c.self.inside.owners c.self.inside.me c.work_on.new.units.states c.work_on.new.notes c.work_on.new.course
      c.self.inside.kept,
  c.work_on.result,
)
    ≡ worked (rule_of c.self.inside.plan.value.run c.self.inside.owners) c.self.inside.me
    (progress_in c.self.inside.owners c.self.inside.me c.learn_fact.new.units.states c.learn_fact.new.notes c.self.inside.course c.self.inside.kept)
worked_is c =
    let n = c.self.inside in
    let run = n.plan.value.run in
    subst (λ os. (progress_in os n.me c.work_on.new.units.states c.work_on.new.notes c.work_on.new.course n.kept, c.work_on.result) ≡ worked
    (rule_of run os) n.me (progress_in os n.me c.learn_fact.new.units.states c.learn_fact.new.notes n.course n.kept)) c.as_slice.ensures
    (subst (λ (p : Planned).
    (progress_in c.as_slice.result.now n.me c.work_on.new.units.states c.work_on.new.notes c.work_on.new.course n.kept, c.work_on.result) ≡ worked
    (rule_of p.run c.as_slice.result.now) n.me
    (progress_in c.as_slice.result.now n.me c.learn_fact.new.units.states c.learn_fact.new.notes n.course n.kept)) c.deref-4.ensures
    (c.work_on.ensures.worked n.kept))

-- ---- The goals

pub learn_fact-requires-clause-item : goal.learn_fact-requires-clause-item
learn_fact-requires-clause-item c =
    let n = c.self.inside in
    let plan = n.plan.value in
    let run = plan.run in
    let fact = c.args.fact.now in
    let judged = subst (λ (p : Planned). IsJudged p.run) c.deref-2.ensures c.judged.ensures in
    let set = c.self.invariant.is_set in
    let keeps = c.self.invariant.keeps in
    let before = map (λ (one : Vec ℤ Global). one.items) n.before.items in
    let honest = subst (λ (s : NodeState). IsHonest s.plan.run fact) (sym c.self.view_is) c.requires.honest in
    let told : c.drops.result ≡ is_dropped run n.owners n.me n.course (making_in n.notes).known fact =
    c.drops.ensures ∙ ap₂ (λ (p : Planned) os. is_dropped p.run os n.me n.course (making_in n.notes).known fact) c.deref.ensures c.as_slice-owners.ensures in
    let going = sym told ∙ c.if-drops.false in
    subst (λ (p : Planned). IsItemOf p.run fact) (sym c.deref-3.ensures)
    (is_item plan judged n.owners n.me n.units n.notes n.course n.kept before set keeps fact honest going)

pub work_on-requires-clause-ready : goal.work_on-requires-clause-ready
work_on-requires-clause-ready c =
    let n = c.self.inside in
    let plan = n.plan.value in
    let at = (goal.at.work_on-requires-clause-ready c).After-learn_fact in
    let l = learnt at in
    let at_plan = ready plan (is_judged at) n.owners n.me c.learn_fact.new.units c.learn_fact.new.notes n.course n.kept
    (map (λ (one : Vec ℤ Global). one.items) n.before.items) l.set l.keeps c.learn_fact.new.notes refl refl in
    subst (λ (p : Planned). IsReady p c.as_slice.result.now n.me n.course.point n.course.number c.learn_fact.new.units c.learn_fact.new.notes)
    (sym c.deref-4.ensures)
    (subst (λ os. IsReady plan os n.me n.course.point n.course.number c.learn_fact.new.units c.learn_fact.new.notes) (sym c.as_slice.ensures) at_plan)

pub work_on-requires-clause-time : goal.work_on-requires-clause-time
work_on-requires-clause-time c =
    subst (λ (p : Planned). c.self.inside.course.point.t ≤ p.run.stop) (sym c.deref-4.ensures)
    (at_bounds (goal.at.work_on-requires-clause-time c).After-learn_fact).time

pub work_on-requires-clause-zeros : goal.work_on-requires-clause-zeros
work_on-requires-clause-zeros c =
    subst (λ (p : Planned). c.self.inside.course.point.n ≤ p.run.zero_budget) (sym c.deref-4.ensures)
    (at_bounds (goal.at.work_on-requires-clause-zeros c).After-learn_fact).zeros

pub work_on-requires-clause-rows : goal.work_on-requires-clause-rows
work_on-requires-clause-rows c =
    subst (λ (p : Planned). c.self.inside.course.number < p.run.row_budget) (sym c.deref-4.ensures)
    (at_bounds (goal.at.work_on-requires-clause-rows c).After-learn_fact).rows

pub invariant_of-self-2 : goal.invariant_of-self-2
invariant_of-self-2 c =
    let n = c.self.inside in
    let plan = n.plan.value in
    let set = c.self.invariant.is_set in
    let before = map (λ (one : Vec ℤ Global). one.items) n.before.items in
    let at = (goal.at.invariant_of-self-2 c).After-learn_fact in
    let l = learnt at in
    let done_is = c.deref-4.ensures in
    record {
      keeps = keeps_new plan (is_judged at) n.owners n.me c.learn_fact.new.units c.learn_fact.new.notes n.course n.kept before l.set l.keeps c.learn_fact.new.notes refl
          (progress_in n.owners n.me c.work_on.new.units.states c.work_on.new.notes c.work_on.new.course n.kept, c.work_on.result)
          (worked_is (goal.at.invariant_of-self-2 c).After-work_on);
      is_set = record {
        tied = c.work_on.ensures.tied ∙ done_is;
        owned = set.owned;
        one_or_other = set.one_or_other;
        me_is = set.me_is;
        few = set.few;
        noted = subst (λ (p : Planned). AreNotes p.run c.work_on.new.notes) done_is c.work_on.ensures.notes;
        words = subst (λ (p : Planned). HaveTheirWords p.run
            (ports_in c.work_on.new.notes.words.items) c.work_on.new.units.inputs) done_is c.work_on.ensures.words;
        kept_long = set.kept_long;
        before_long = subst (λ (p : Planned). HaveStates p.run (map (λ one. one.items) c.work_on.new.before.items)) done_is c.work_on.ensures.before;
        room = subst (λ (p : Planned). length (routes_of p.run).outputs ≤ vec_capacity c.work_on.new.course.shown.words) done_is c.work_on.ensures.shown;
      };
      of_words = c.self.invariant.of_words;
    }

pub returns-clause-taken : goal.returns-clause-taken
returns-clause-taken c =
    let n = c.self.inside in
    let run = n.plan.value.run in
    let fact = c.args.fact.now in
    let at = (goal.at.returns-clause-taken c).After-learn_fact in
    let did : Progress × Taken = (progress_in n.owners n.me c.work_on.new.units.states c.work_on.new.notes c.work_on.new.course n.kept, c.work_on.result) in
    let node = progress_in n.owners n.me n.units.states n.notes n.course n.kept in
    let at_inside = taken_is run n.owners n.me node fact c.drops.result did (dropped_is at) c.if-drops.false
    (worked_is (goal.at.returns-clause-taken c).After-work_on ∙ ap (worked (rule_of run n.owners) n.me) (learnt at).known) in
    subst (λ (s : NodeState). did ≡ taken (rule_of s.plan.run s.owners) s.me s.progress fact) c.self.view_is at_inside
