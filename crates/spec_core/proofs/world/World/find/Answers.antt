use Rattle.std.proofs.Common.{◌∙◌, ◌<◌, refl, ap, sym, subst, inl, inr}
use Rattle.std.specs.Option.{option_copied}
use Rattle.spec_core.specs.Events.{Happens, with_run}
use Rattle.spec_core.specs.Keeping.{world_state}
use Rattle.spec_core.specs.Worlds.{WorldState}
use Rattle.spec_core.specs.declared.event.Event.TheVariants as event
use Rattle.spec_core.specs.declared.event.Reply.TheVariants as reply
use Rattle.list_laws.proofs.Members.{read_at}
use Rattle.spec_core.proofs.ActLaws.{never, refused_so, wanted_lane}
use Rattle.spec_core.proofs.KnowLaws.{first_is}
use Rattle.spec_core.proofs.WorldLaws.{keeps_run}
use Rattle.trace_core.specs.Runs.{IsKeyAt, IsWanted, RunState}
use Rattle.unit_answers.specs.Keys.{key_of}
use Rattle.spec_core.proofs.world.World.find.Goals as goal

pub returns-in_default : goal.returns-in_default
returns-in_default c =
    subst (λ (w : WorldState). Happens w (event.Find c.args.instance) reply.Refused w) c.self.view_is
    (refused_so (world_state c.self.inside) (event.Find c.args.instance) (λ wanted. never (c.in_default.ensures.exactly.1 wanted)))

pub index-requires : goal.index-requires
index-requires c =
    subst (λ count. c.args.instance < count) (sym c.self.inside.lanes.ok.0)
    (wanted_lane (world_state c.self.inside) c.args.instance c.self.invariant.is_world (c.in-Some.ensures.exactly.0 refl))

pub returns-in_default-find : goal.returns-in_default-find
returns-in_default-find c =
    let wanted : IsWanted c.self.inside.run c.args.instance = c.in-Some.ensures.exactly.0 refl in
    let within = wanted_lane (world_state c.self.inside) c.args.instance c.self.invariant.is_world wanted in
    let there = read_at c.self.inside.lanes.items c.args.instance c.index.result.now within c.index.ensures in
    subst (λ (w : WorldState). Happens w (event.Find c.args.instance) reply.Missed w) c.self.view_is
    (inl (inr (record {
      lane = c.index.result.now;
      key = key_of c.in-Some.want;
      looks = record { wanted = wanted; is_key = c.in-Some.ensures.want.key; is_lane = there };
      none = sym c.find.ensures ∙ ap option_copied c.in_default-find.is;
      is = refl;
      replied = refl;
    })))

pub unreachable-requires : goal.unreachable-requires
unreachable-requires c =
    let wanted : IsWanted c.self.inside.run c.args.instance = c.in-Some.ensures.exactly.0 refl in
    let first = first_is (key_of c.in-Some.want) c.index.result.now.answers c.in-Some-find.one.now (sym c.find.ensures ∙ ap option_copied c.in-Some-find.is) in
    never (c.if-not-accept.ensures.exactly.1 (wanted, subst (IsKeyAt c.self.inside.run c.args.instance) (sym first.0) c.in-Some.ensures.want.key))

pub invariant_of-self : goal.invariant_of-self
invariant_of-self c =
    let run = c.if-not-accept.ensures.found refl in
    let planned = ap (λ (r : RunState). r.plan) run in
    record {
      is_world = keeps_run (world_state c.self.inside) c.self.invariant.is_world c.accept.new.self c.phase.ensures.stands planned;
      tied = planned ∙ c.self.invariant.tied;
      units = c.self.invariant.units;
    }

pub returns : goal.returns
returns c =
    let wanted : IsWanted c.self.inside.run c.args.instance = c.in-Some.ensures.exactly.0 refl in
    let within = wanted_lane (world_state c.self.inside) c.args.instance c.self.invariant.is_world wanted in
    let there = read_at c.self.inside.lanes.items c.args.instance c.index.result.now within c.index.ensures in
    subst (λ (w : WorldState). Happens w (event.Find c.args.instance) reply.Found (with_run (world_state c.self.inside) c.accept.new.self)) c.self.view_is
    (inl (inl (record {
      lane = c.index.result.now;
      key = key_of c.in-Some.want;
      looks = record { wanted = wanted; is_key = c.in-Some.ensures.want.key; is_lane = there };
      one = c.in-Some-find.one.now;
      is_found = sym c.find.ensures ∙ ap option_copied c.in-Some-find.is;
      is = ap (with_run (world_state c.self.inside)) (c.if-not-accept.ensures.found refl);
      replied = refl;
    })))
