use Rattle.std.proofs.Common.{◌∙◌, ap, sym}
use Rattle.std.specs.Prelude.{slice_get}
use Rattle.list_laws.proofs.Members.{at_place}
use Rattle.lane_outlook.proofs.OutlookLaws.{is_outlook}
use Rattle.super_time.specs.declared.point.Point.{Point}
use Rattle.trace_core.specs.Runs.{step_length}
use Rattle.trace_plan.specs.Plans.{Planned}
use Rattle.lane_outlook.proofs.outlooks.outlook.Goals as goal

pub returns-clause-seen : goal.returns-clause-seen
returns-clause-seen c =
    let r = c.args.run.now in
    let there = at_place r.plan.run.members c.args.instance c.requires.there in
    let lent = ap (λ (p : Planned). slice_get p.run.members c.args.instance) (sym c.requires.own) ∙ there.1 in
    record {
      member = there.0;
      is_there = there.1;
      row = c.number.ensures;
      time = ap (λ (p : Point). p.t) c.point.ensures;
      step = c.step_length.ensures ∙ ap step_length c.phase.ensures.phase;
      stop = c.stop.ensures.value ∙ ap (λ (p : Planned). p.run.stop) (sym c.requires.own);
      factor = c.factor.ensures.factor there.0 lent;
      last = c.inputs.ensures;
      before = c.before-2.ensures;
      low = c.input_ends.ensures.low there.0 lent;
      high = c.input_ends.ensures.high there.0 lent;
    }

pub returns-clause-outlook : goal.returns-clause-outlook
returns-clause-outlook c =
    is_outlook c.args.run.now c.phase.ensures.stands c.requires.going c.args.instance _ (returns-clause-seen c) c.factor.ensures.least
