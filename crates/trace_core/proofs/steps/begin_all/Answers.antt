use Rattle.std.proofs.Common.{◌∙◌, ◌<◌, arith, get_or, length, subst, sym}
use Rattle.std.proofs.lemmas.List.{get_or_default}
use Rattle.trace_core.specs.Seats.{IsBegun, IsClock}
use Rattle.trace_core.proofs.LoopLaws.{none_turned, one_turned, zip_of}
use Rattle.unit_tree.specs.Compositions.{Member}
use Rattle.trace_core.proofs.steps.begin_all.Goals as goal

pub loop-instance-init : goal.loop-instance-init
loop-instance-init c = record {
  turned = none_turned _ c.args.seats.now;
  clock = subst (λ factor. IsClock c.args.t c.args.h factor c.clock_of-clock.result) (sym c.clock_of-clock.ensures.factor_is) c.clock_of-clock.ensures;
}

pub loop-instance-preserved : goal.loop-instance-preserved
loop-instance-preserved c =
    let so = c.loop-instance.invariant.turned in
    let within : c.loop-instance.instance < length c.args.seats.now =
    omega (arith, c.loop-instance-test.true, c.instances-instance-end.ensures.count, c.requires.seats) in
    let clock : IsClock c.args.t c.args.h c.factor.result c.next_clock-clock.result = c.next_clock-clock.ensures in
    record {
      turned =
          one_turned _ c.args.seats.now c.loop-instance.seats c.loop-instance.instance c.begin.new.seat within so
          (λ default member at.
          subst (λ factor. IsBegun c.args.t c.args.h factor (get_or c.args.seats.now c.loop-instance.instance default) c.begin.new.seat)
          (c.factor.ensures.factor member at)
          (subst (λ old. IsBegun c.args.t c.args.h c.factor.result old c.begin.new.seat)
          (so.kept c.loop-instance.instance c.index-seats-instance.result (omega arith)
          ∙ sym (get_or_default c.args.seats.now c.loop-instance.instance default c.index-seats-instance.result within))
          (c.begin.ensures c.args.t c.factor.result clock)));
      clock = subst (λ factor. IsClock c.args.t c.args.h factor c.next_clock-clock.result) (sym clock.factor_is) clock;
    }

pub returns : goal.returns
returns c = record {
  as_many = c.loop-instance.invariant.turned.as_many;
  each =
      zip_of (λ
      (member : Member) old new. IsBegun c.args.t c.args.h member.factor old new) c.args.plan.now.run.members c.args.seats.now c.loop-instance.seats
      c.requires.seats c.loop-instance.invariant.turned.as_many
      (λ k default within member at.
      let before : k < c.loop-instance.instance = omega (arith, within, c.requires.seats, c.instances-instance-end.ensures.count, c.loop-instance-test.false) in
      c.loop-instance.invariant.turned.changed k default before within member at);
}
