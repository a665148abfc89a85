use Rattle.std.proofs.Common.{◌≡◌, ◌∙◌, ◌<◌, length, false, Some, Ok, ap, sym, subst}
use Rattle.std.specs.Prelude.{slice_get}
use Rattle.std.specs.Option.{option_map}
use Rattle.list_laws.proofs.Members.{read_at}
use Rattle.port_solve.specs.Solved.{HaveStates}
use Rattle.super_time.specs.LocalTime.{limit_of}
use Rattle.trace_core.specs.Keeping.{run_state}
use Rattle.trace_core.specs.Runs.{RunState, is_filled}
use Rattle.trace_core.proofs.AskingLaws.{asked_in_time, asked_seat, limit_given, seated, unmade_within}
use Rattle.trace_core.proofs.KeepLaws.{going_solved}
use Rattle.trace_core.proofs.SettleLaws.{long, step_in_time}
use Rattle.trace_plan.specs.Plans.{Planned}
use Rattle.trace_units.specs.Fleets.{ForUnit}
use Rattle.unit_tree.specs.Components.{max_of}
use Rattle.unit_tree.specs.Negotiation.{limit_at, limit_told}
use Rattle.unit_tree.specs.Successor.{standings}
use Rattle.trace_core.proofs.run.Run.limit.Goals.{in-Ok-Some, in-Ok-None, in-Err}
use Rattle.trace_core.proofs.run.Run.limit.Goals as goal

pub index-requires : goal.index-requires
index-requires c =
    let r = c.self.inside in
    let unmade =
    subst (λ (s : RunState). option_map is_filled (slice_get s.cells c.args.instance) ≡ Some false) (sym c.self.view_is) c.requires.unmade in
    let at = seated r c.args.instance (unmade_within (run_state r).cells c.args.instance unmade) in
    subst (λ count. c.args.instance < count) (sym r.seats.ok.0) at.0

pub max_step-requires-clause-there : goal.max_step-requires-clause-there
max_step-requires-clause-there c =
    let r = c.self.inside in
    let unmade =
    subst (λ (s : RunState). option_map is_filled (slice_get s.cells c.args.instance) ≡ Some false) (sym c.self.view_is) c.requires.unmade in
    let at = seated r c.args.instance (unmade_within (run_state r).cells c.args.instance unmade) in
    subst (λ (plan : Planned). c.args.instance < length plan.run.members) (sym c.self.invariant.tied)
    (subst (λ count. c.args.instance < count) c.self.invariant.room.seats at.0)

pub max_step-requires-clause-time : goal.max_step-requires-clause-time
max_step-requires-clause-time c =
    let r = c.self.inside in
    let unmade =
    subst (λ (s : RunState). option_map is_filled (slice_get s.cells c.args.instance) ≡ Some false) (sym c.self.view_is) c.requires.unmade in
    let at = seated r c.args.instance (unmade_within (run_state r).cells c.args.instance unmade) in
    let there = read_at r.seats.items c.args.instance c.index.result.now at.0 c.index.ensures in
    let have = subst (λ (plan : Planned). HaveStates plan.run r.units.states) c.self.invariant.tied c.count.ensures.states in
    asked_in_time r c.self.invariant c.args.instance c.index.result.now (long r c.self.invariant have) at.1 there (step_in_time r c.self.invariant have at.1)

pub factor-requires : goal.factor-requires
factor-requires c =
    let r = c.self.inside in
    let unmade =
    subst (λ (s : RunState). option_map is_filled (slice_get s.cells c.args.instance) ≡ Some false) (sym c.self.view_is) c.requires.unmade in
    let at = seated r c.args.instance (unmade_within (run_state r).cells c.args.instance unmade) in
    record {
      there = subst (λ (plan : Planned). c.args.instance < length plan.run.members) (sym c.deref.ensures)
          (subst (λ count. c.args.instance < count) c.self.invariant.room.seats at.0);
    }

pub returns-clause-limit : goal.returns-clause-limit
returns-clause-limit c =
    let r = c.self.inside in
    let unmade =
    subst (λ (s : RunState). option_map is_filled (slice_get s.cells c.args.instance) ≡ Some false) (sym c.self.view_is) c.requires.unmade in
    let at = seated r c.args.instance (unmade_within (run_state r).cells c.args.instance unmade) in
    let there = read_at r.seats.items c.args.instance c.index.result.now at.0 c.index.ensures in
    let have = subst (λ (plan : Planned). HaveStates plan.run r.units.states) c.self.invariant.tied c.count.ensures.states in
    let ports_fed = c.self.invariant.inputs (going_solved r c.self.invariant at.1) in
    let asked = asked_seat r c.self.invariant c.args.instance c.index.result.now (long r c.self.invariant have) at.1 there in
    let gives : ForUnit r.units c.args.instance (λ member state inputs. max_of member.component state inputs c.index.result.now.time ≡ c.max_step.result) =
    c.max_step.ensures.gives in
    let given =
    limit_given r c.self.invariant c.args.instance c.index.result.now (long r c.self.invariant have) at.1 there unmade ports_fed c.max_step.result
    (ap (λ (plan : Planned). plan.run) c.self.invariant.tied) gives in
    ap (λ (s : RunState). option_map (limit_at s.stand.at.point.t s.stand.ports) (slice_get (standings s.plan.run s.stand.at) c.args.instance))
    (sym c.self.view_is)
    ∙ given
    ∙ elim c.match-max_step.branch [
      | in-Ok-Some w ↦
          (let factor : w.factor.result ≡ asked.member.factor =
          w.factor.ensures.factor asked.member
          (ap (λ (plan : Planned). slice_get plan.run.members c.args.instance) w.deref.ensures ∙ asked.member_is) in
          ap (λ told. Some (limit_told asked.member.factor r.point.t told)) (w.in-Ok-Some.is ∙ ap Ok w.in-Ok-Some.field-0-is)
          ∙ ap (λ n. Some (Some (limit_of n r.point.t w.in-Ok-Some.local))) (sym factor)
          ∙ ap (λ n. Some (Some n)) (sym w.limit.ensures)
          ∙ ap Some (sym w.result-is))
      | in-Ok-None w ↦
          ap (λ told. Some (limit_told asked.member.factor r.point.t told)) (w.in-Ok-None.is ∙ ap Ok w.in-Ok-None.field-0-is) ∙ ap Some (sym w.result-is)
      | in-Err w ↦ ap (λ told. Some (limit_told asked.member.factor r.point.t told)) w.in-Err.is ∙ ap Some (sym w.result-is)
    ]
