use Rattle.std.proofs.Common.{◌≡◌, ◌∙◌, ◌<◌, ◌≤◌, length, Some, ap, sym, subst, arith}
use Rattle.std.proofs.Common.{refl}
use Rattle.std.proofs.lemmas.Bool.{eq-eqb, le-ltb, lt-ltb, ne_eqb}
use Rattle.std.specs.Prelude.{slice_get}
use Rattle.step_log.proofs.StepsMade.{step_told}
use Rattle.super_time.specs.LocalTime.{local_step}
use Rattle.super_time.specs.declared.point.Point.{Point}
use Rattle.step_rule.specs.declared.steps.Slot.TheVariants as slot
use Rattle.trace_plan.specs.Plans.{Planned}
use Rattle.unit_tree.specs.Negotiation.{reply_of}
use Rattle.step_log.proofs.Agreements.{first_found, none_found, not_shorter, pass_other, pass_unmade}
use Rattle.step_log.proofs.negotiating.shortening.Goals.{in-Took+else-reply-agreed, in_default}
use Rattle.step_log.proofs.negotiating.shortening.Goals as goal

pub reply-requires-clause-accepted : goal.reply-requires-clause-accepted
reply-requires-clause-accepted c =
    let r = c.args.run.now in
    let within : c.loop-instance.instance < length r.plan.run.members =
    subst (λ (p : Planned). c.loop-instance.instance < length p.run.members) (sym c.requires.own)
    (omega (arith, c.loop-instance-test.true, c.instances-instance-end.ensures.count)) in
    let here = step_told r c.args.h c.requires.stands c.requires.trial c.requires.full c.loop-instance.instance within (slot.Took c.in-Took.accepted) (c.slot.ensures ∙ ap Some c.in-Took.is) in
    let factor : c.factor.result ≡ here.member.factor =
    c.factor.ensures.factor here.member (ap (λ (p : Planned). slice_get p.run.members c.loop-instance.instance) (sym c.requires.own) ∙ here.member_is) in
    subst (λ f. c.in-Took.accepted ≤ local_step f c.point-t.result.t c.args.h) (sym factor)
    (subst (λ (p : Point). c.in-Took.accepted ≤ local_step here.member.factor p.t c.args.h) (sym c.point-t.ensures) here.tells.most)

pub returns-then-reply-agreed : goal.returns-then-reply-agreed
returns-then-reply-agreed c =
    let r = c.args.run.now in
    let within : c.loop-instance.instance < length r.plan.run.members =
    subst (λ (p : Planned). c.loop-instance.instance < length p.run.members) (sym c.requires.own)
    (omega (arith, c.loop-instance-test.true, c.instances-instance-end.ensures.count)) in
    let here = step_told r c.args.h c.requires.stands c.requires.trial c.requires.full c.loop-instance.instance within (slot.Took c.in-Took.accepted) (c.slot.ensures ∙ ap Some c.in-Took.is) in
    let factor : c.factor.result ≡ here.member.factor =
    c.factor.ensures.factor here.member (ap (λ (p : Planned). slice_get p.run.members c.loop-instance.instance) (sym c.requires.own) ∙ here.member_is) in
    let reply : c.reply.result ≡ reply_of here.member.factor r.stand.at.point.t c.args.h c.in-Took.accepted =
    c.reply.ensures.reply
    ∙ ap (λ f. reply_of f c.point-t.result.t c.args.h c.in-Took.accepted) factor
    ∙ ap (λ (p : Point). reply_of here.member.factor p.t c.args.h c.in-Took.accepted) c.point-t.ensures in
    first_found r c.args.h c.args.agreed c.loop-instance.instance c.in-Took.accepted c.reply.result here reply
    (eq-eqb c.reply.result c.args.agreed c.if-reply-agreed.true) (lt-ltb c.args.agreed c.args.h c.if-agreed-h.false) c.loop-instance.invariant

pub loop-instance-preserved : goal.loop-instance-preserved
loop-instance-preserved c =
    let r = c.args.run.now in
    let within : c.loop-instance.instance < length r.plan.run.members =
    subst (λ (p : Planned). c.loop-instance.instance < length p.run.members) (sym c.requires.own)
    (omega (arith, c.loop-instance-test.true, c.instances-instance-end.ensures.count)) in
    elim c.match-slot.branch [
      | in-Took+else-reply-agreed w ↦
          (let here =
          step_told r c.args.h c.requires.stands c.requires.trial c.requires.full c.loop-instance.instance within (slot.Took w.in-Took.accepted)
          (c.slot.ensures ∙ ap Some w.in-Took.is) in
          let factor : w.factor.result ≡ here.member.factor =
          w.factor.ensures.factor here.member (ap (λ (p : Planned). slice_get p.run.members c.loop-instance.instance) (sym c.requires.own) ∙ here.member_is) in
          let reply : w.reply.result ≡ reply_of here.member.factor r.stand.at.point.t c.args.h w.in-Took.accepted =
          w.reply.ensures.reply
          ∙ ap (λ f. reply_of f c.point-t.result.t c.args.h w.in-Took.accepted) factor
          ∙ ap (λ (p : Point). reply_of here.member.factor p.t c.args.h w.in-Took.accepted) c.point-t.ensures in
          pass_other r c.args.h c.args.agreed c.loop-instance.instance w.in-Took.accepted w.reply.result here reply
          (ne_eqb w.reply.result c.args.agreed w.if-reply-agreed.false) c.loop-instance.invariant)
      | in_default w ↦
          pass_unmade r c.args.h c.args.agreed c.loop-instance.instance c.slot.result
          (step_told r c.args.h c.requires.stands c.requires.trial c.requires.full c.loop-instance.instance within c.slot.result c.slot.ensures)
          w.in_default.not-Took c.loop-instance.invariant
    ]

pub loop-instance-init : goal.loop-instance-init
loop-instance-init c = record { is = refl }

pub returns : goal.returns
returns c =
    let past : length c.args.run.now.plan.run.members ≤ c.loop-instance.instance =
    subst (λ (p : Planned). length p.run.members ≤ c.loop-instance.instance) (sym c.requires.own)
    (omega (arith, c.loop-instance-test.false, c.instances-instance-end.ensures.count)) in
    none_found c.args.run.now c.args.h c.args.agreed c.loop-instance.instance past (lt-ltb c.args.agreed c.args.h c.if-agreed-h.false) c.loop-instance.invariant

pub returns-then-agreed-h : goal.returns-then-agreed-h
returns-then-agreed-h c = not_shorter c.args.run.now c.args.h c.args.agreed (le-ltb c.args.agreed c.args.h c.if-agreed-h.true)
