use Rattle.std.proofs.Common.{◌≡◌, ◌∙◌, ◌≤◌, [], length, ap, subst, sym, arith}
use Rattle.link_laws.specs.Keeping.{KeepsTo}
use Rattle.link_laws.specs.Lengths.{AreOfWords}
use Rattle.link_laws.specs.Making.{rule_of}
use Rattle.link_laws.specs.Nodes.{Progress}
use Rattle.link_core.specs.Ready.{IsJudged}
use Rattle.link_core.proofs.OpenLaws.{are_notes, opened_is, start_fed}
use Rattle.link_laws.proofs.PairLaws.{opened_keeps}
use Rattle.link_core.proofs.WorkLaws.{right}
use Rattle.link_core.proofs.node.Node.open.Goals as goal
use Rattle.port_solve.specs.Solved.{HaveStates, HaveTheirWords}
use Rattle.trace_plan.specs.Plans.{Planned}
use Rattle.unit_tree.specs.Routes.{routes_of}
use Rattle.unit_tree.specs.Successor.{first_position}
use Rattle.unit_tree.specs.declared.order.Routes.{Routes}
use Rattle.std.specs.Prelude.{vec_capacity}

pub invariant_of-result : goal.invariant_of-result
invariant_of-result c =
    let plan = c.args.plan.value in
    let run = plan.run in
    let notes = c.in_ok-notes.notes in
    let course = c.in_ok-course.course in
    let units = c.in_ok-units.units in
    let many : c.len-places.result ≡ length (routes_of run).outputs =
    c.len-places.ensures ∙ ap (λ (r : Routes). length r.outputs) (c.routes.ensures.routes ∙ c.order.ensures.routes)
    ∙ ap (λ (p : Planned). length (routes_of p.run).outputs) c.deref-3.ensures in
    let members : c.instances-instances.result ≡ length run.members = c.instances-instances.ensures.count
    ∙ ap (λ (p : Planned). length p.run.members) c.deref-4.ensures in
    let states = c.in_ok-units.ensures.states ∙ ap (λ (p : Planned). (first_position p.run).states) c.deref-5.ensures in
    let is = opened_is run c.len-places.result c.instances-instances.result many members notes c.in_ok-notes.ensures.made c.args.owners c.args.me units.states
    course c.in_ok-states_of.field-0
    states (c.in_ok-states_of.ensures
    ∙ states) c.in_ok-course.ensures.point c.in_ok-course.ensures.number c.in_ok-course.ensures.ended c.in_ok-course.ensures.shown in
    let judged = subst (λ (p : Planned). IsJudged p.run) c.deref.ensures c.judged.ensures in
    let tied = c.in_ok-units.ensures.plan ∙ c.deref-5.ensures in
    let have = subst (λ (p : Planned). HaveStates p.run units.states) tied c.count.ensures.states in
    let words = subst (λ (p : Planned). HaveTheirWords p.run [] units.inputs) c.deref-5.ensures c.in_ok-units.ensures.words in
    record {
      keeps = subst (λ (p : Progress). KeepsTo run (rule_of run c.args.owners) c.args.me p) (sym is)
          (opened_keeps run (rule_of run c.args.owners) (right run judged c.args.owners c.args.me c.requires.owners) c.args.me);
      is_set = record {
        tied = tied;
        owned = c.requires.owners;
        one_or_other = c.requires.one_or_other;
        me_is = c.requires.me;
        few = omega (arith, c.if-places-gt4294967296.false, many);
        noted = are_notes run c.len-places.result c.instances-instances.result many members notes c.in_ok-notes.ensures.made c.in_ok-notes.ensures.defined;
        words = start_fed run c.len-places.result c.instances-instances.result many members notes c.in_ok-notes.ensures.made units.inputs words;
        kept_long = subst (HaveStates run) (sym c.in_ok-states_of.ensures) have;
        before_long = subst (HaveStates run) (sym c.in_ok-before.ensures) have;
        room = subst (λ n. n ≤ vec_capacity course.shown.words) many c.in_ok-course.ensures.room;
      };
      of_words = subst (λ (p : Planned). AreOfWords p.run) c.deref-2.ensures c.read_plan.ensures;
    }

pub returns : goal.returns
returns c =
    let plan = c.args.plan.value in
    let run = plan.run in
    let notes = c.in_ok-notes.notes in
    let course = c.in_ok-course.course in
    let units = c.in_ok-units.units in
    let many : c.len-places.result ≡ length (routes_of run).outputs =
    c.len-places.ensures ∙ ap (λ (r : Routes). length r.outputs) (c.routes.ensures.routes ∙ c.order.ensures.routes)
    ∙ ap (λ (p : Planned). length (routes_of p.run).outputs) c.deref-3.ensures in
    let members : c.instances-instances.result ≡ length run.members = c.instances-instances.ensures.count
    ∙ ap (λ (p : Planned). length p.run.members) c.deref-4.ensures in
    let states = c.in_ok-units.ensures.states ∙ ap (λ (p : Planned). (first_position p.run).states) c.deref-5.ensures in
    let is = opened_is run c.len-places.result c.instances-instances.result many members notes c.in_ok-notes.ensures.made c.args.owners c.args.me units.states
    course c.in_ok-states_of.field-0
    states (c.in_ok-states_of.ensures
    ∙ states) c.in_ok-course.ensures.point c.in_ok-course.ensures.number c.in_ok-course.ensures.ended c.in_ok-course.ensures.shown in
    ap (λ (p : Progress). record { plan = plan; owners = c.args.owners; me = c.args.me; progress = p }) is
