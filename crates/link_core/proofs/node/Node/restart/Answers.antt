use Rattle.std.proofs.Common.{◌≡◌, ◌∙◌, false, map, None, ap, refl, subst, sym}
use Rattle.link_laws.specs.Keeping.{KeepsTo}
use Rattle.link_laws.specs.Making.{ports_in, rule_of}
use Rattle.link_core.specs.NodeStates.{NodeState}
use Rattle.link_laws.specs.Nodes.{Making, Progress, restarted}
use Rattle.link_laws.specs.Boards.{are_nothing}
use Rattle.link_core.specs.Ready.{IsJudged, progress_in}
use Rattle.link_core.specs.declared.course.NodePosition.{NodePosition}
use Rattle.link_core.proofs.KeepLaws.{restarted_is}
use Rattle.link_core.proofs.RoomLaws.{words_in}
use Rattle.link_laws.proofs.PairLaws.{restart_keeps}
use Rattle.link_laws.proofs.PlaceLaws.{nothing_fed}
use Rattle.link_core.proofs.WorkLaws.{right}
use Rattle.link_core.proofs.node.Node.restart.Goals as goal
use Rattle.port_solve.specs.Solved.{HaveTheirWords}
use Rattle.trace_plan.specs.Plans.{Planned}
use Rattle.trace_units.specs.Fleets.{Fleet}

pub invariant_of-self : goal.invariant_of-self
invariant_of-self c =
    let n = c.self.inside in
    let set = c.self.invariant.is_set in
    let run = n.plan.value.run in
    let judged = subst (λ (p : Planned). IsJudged p.run) c.deref.ensures c.judged.ensures in
    let restored = c.restore_states.ensures.units in
    let states = ap (λ (f : Fleet). f.states) restored ∙ ap (map words_in) c.deref-2.ensures.value in
    let again : NodePosition = record {
      point = n.kept.point;
      number = n.kept.number;
      ended = None;
      shown = record { there = false; point = n.course.shown.point; words = n.course.shown.words };
    } in
    let is = restarted_is run n.owners n.me n.units.states c.restore_states.new.units.states n.notes c.clear.new.self n.course again n.kept set.noted
    c.clear.ensures.made states refl refl refl refl in
    let keeps = restart_keeps run (rule_of run n.owners) (right run judged n.owners n.me set.owned) n.me
    (progress_in n.owners n.me n.units.states n.notes n.course n.kept) c.self.invariant.keeps in
    let words = ap (λ (making : Making). making.known.words) c.clear.ensures.made in
    record {
      keeps = subst (λ (p : Progress). KeepsTo run (rule_of run n.owners) n.me p) (sym is) keeps;
      is_set = record {
        tied = ap (λ (f : Fleet). f.plan) restored ∙ set.tied;
        owned = set.owned;
        one_or_other = set.one_or_other;
        me_is = set.me_is;
        few = set.few;
        noted = c.clear.ensures.notes run set.noted;
        words = subst (λ all. HaveTheirWords run (ports_in all) c.restore_states.new.units.inputs) (sym words)
            (subst (λ all. HaveTheirWords run (ports_in (are_nothing n.notes.words.items)) all) (sym (ap (λ (f : Fleet). f.inputs) restored))
            (nothing_fed run (ports_in n.notes.words.items) n.notes.words.items n.units.inputs set.words));
        kept_long = set.kept_long;
        before_long = set.before_long;
        room = set.room;
      };
      of_words = c.self.invariant.of_words;
    }

pub returns-clause-restarted : goal.returns-clause-restarted
returns-clause-restarted c =
    let n = c.self.inside in
    let set = c.self.invariant.is_set in
    let run = n.plan.value.run in
    let states = ap (λ (f : Fleet). f.states) c.restore_states.ensures.units ∙ ap (map words_in) c.deref-2.ensures.value in
    let again : NodePosition = record {
      point = n.kept.point;
      number = n.kept.number;
      ended = None;
      shown = record { there = false; point = n.course.shown.point; words = n.course.shown.words };
    } in
    let new = progress_in n.owners n.me c.restore_states.new.units.states c.clear.new.self again n.kept in
    let is = restarted_is run n.owners n.me n.units.states c.restore_states.new.units.states n.notes c.clear.new.self n.course again n.kept set.noted
    c.clear.ensures.made states refl refl refl refl in
    subst (λ (s : NodeState). new ≡ restarted (rule_of s.plan.run s.owners) s.progress) c.self.view_is is
